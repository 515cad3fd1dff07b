-- What stays at places.
use Rattle.std.proofs.Common.{◌≡◌, ℕ, ◌+◌, ◌≤◌, Option, None, Some, List, [], length, refl, ap, sym, ◌∙◌, subst, arith}
use Rattle.std.specs.Prelude.{slice_get, slice_index}
use Rattle.rtrb.specs.Ring.{sent}
use Rattle.turn_gate.specs.History.{Begins}
use Rattle.turn_gate.specs.Passes.{number, seen}
use Rattle.turn_gate.specs.declared.pass.Pass.{Pass}
use Rattle.perimeter_core.specs.declared.marks.SynchAct.TheVariants as Done
use Rattle.perimeter_core.specs.Deeds.{acts, fed, times_left}
use Rattle.perimeter_core.specs.History.{Element, Limits, Setting}
use Rattle.squeue_state.specs.Naming.{Named, setting_of}
use Rattle.conn_migrate.specs.Moving.{Moved}
use Rattle.squeue_streams.specs.Taking.{most_leaves}
use Rattle.stream_stays.specs.declared.place.Place.{Place}
use Rattle.stream_stays.specs.declared.place.Place.TheVariants.{Open, Out, Vacant as Vacant'}
use Rattle.stream_stays.specs.declared.place.Stays.{Stays}
use Rattle.stream_stays.specs.declared.stay.Stay.{Stay}
use Rattle.stream_stays.specs.declared.stay.Vacant.{Vacant}
use Rattle.stream_stays.specs.Staying.{IsBegun, SameStay, before_of, leaves_of, pushed_of, sent_of}
use Rattle.stream_stays.specs.Places.{Knows, SameElsewhere, place_at, places_of}
use Rattle.stream_stays.specs.Settling.{SameAt, SameSent, sent_in}
use Rattle.stream_stays.proofs.Settled.{at_on, places_self}
use Rattle.squeue_arrivals.specs.Keyed.{IsFirst}
use Rattle.squeue_arrivals.specs.Keeping.{IsUnused, Keeps, KeepsBut, Serves}
use Rattle.squeue_arrivals.specs.Stayed.{WasFed}
use Rattle.squeue_arrivals.specs.declared.steps.Keyed.{Keyed}
use Rattle.squeue_arrivals.proofs.StaysKept.{fed_more, fed_on, left_more, none_fed}

module _ {T S : Type 0} where
  -- the same stay goes on there, or the same part lies there
  pub open_at_both : (was is : Option (Place T S)) (stay : Stay T) → was ≡ Some (Open stay) → SameAt was is → (next : Stay T) × (is ≡ Some (Open next)) × SameSent stay next
  open_at_both was is stay e same = by is (subst (λ (o : Option (Place T S)). SameAt o is) e same)
    where
      by : (o : Option (Place T S)) → SameAt (Some (Open stay)) o → (next : Stay T) × (o ≡ Some (Open next)) × SameSent stay next
      by None x = absurd x
      by (Some (Vacant' v)) x = absurd x
      by (Some (Open next)) x = (next, refl, x)
      by (Some Out) x = absurd x

  vacant_at_both : (was is : Option (Place T S)) (v : Vacant T S) → was ≡ Some (Vacant' v) → SameAt was is → is ≡ Some (Vacant' v)
  vacant_at_both was is v e same = subst (λ (o : Option (Place T S)). SameAt o is) e same

  abbrev with_stay : Stay T → Option (Place T S)
  with_stay stay = Some (Open stay)

  abbrev with_vacant : Vacant T S → Option (Place T S)
  with_vacant v = Some (Vacant' v)

  -- one stay is there, or one part lies there
  pub same_stay : (a : Stays T S) (c : ℕ) (x y : Stay T) → place_at a c ≡ Some (Open x) → place_at a c ≡ Some (Open y) → x ≡ y
  same_stay a c x y one other = go x y (sym one ∙ other)
    where
      go : (x y : Stay T) → with_stay x ≡ with_stay y → x ≡ y
      go x y e = cc e

  pub same_vacant : (a : Stays T S) (c : ℕ) (x y : Vacant T S) → place_at a c ≡ Some (Vacant' x) → place_at a c ≡ Some (Vacant' y) → x ≡ y
  same_vacant a c x y one other = go x y (sym one ∙ other)
    where
      go : (x y : Vacant T S) → with_vacant x ≡ with_vacant y → x ≡ y
      go x y e = cc e

  -- places that are the same
  pub keeps_same : (a b : Stays T S) → places_of b ≡ places_of a → Keeps a b
  keeps_same a b same d = subst (λ (l : List (Place T S)). SameAt (place_at a d) (slice_get l d)) (sym same) ((places_self a).each d)

  pub keeps_self : (a : Stays T S) → Keeps a a
  keeps_self a d = (places_self a).each d

  pub keeps_on : (a b c : Stays T S) → Keeps a b → Keeps b c → Keeps a c
  keeps_on a b c x y d = at_on (place_at a d) (place_at b d) (place_at c d) (x d) (y d)

  -- all but one place
  pub but_elsewhere : (c : ℕ) (a b : Stays T S) → SameElsewhere c a b → KeepsBut c a b
  but_elsewhere c a b same d apart = subst (SameAt (place_at a d)) (sym (same.others d apart)) ((places_self a).each d)

  pub but_of : (c : ℕ) (a b : Stays T S) → Keeps a b → KeepsBut c a b
  but_of c a b x d apart = x d

  pub but_on : (e : ℕ) (a b c : Stays T S) → KeepsBut e a b → KeepsBut e b c → KeepsBut e a c
  but_on e a b c x y d apart = at_on (place_at a d) (place_at b d) (place_at c d) (x d apart) (y d apart)

  -- a place that is unused still is
  pub unused_on : (at : Setting) (a b : Stays T S) (c : ℕ) → SameAt (place_at a c) (place_at b c) → IsUnused at a c → IsUnused at b c
  unused_on at a b c same is = record { vacant = is.vacant; is_vacant = vacant_at_both (place_at a c) (place_at b c) is.vacant is.is_vacant same; none = is.none; leaves = is.leaves }

  module _ (at : Setting) where
    -- how often the part of a place left, and may still leave, is no more than it may in all
    pub record LeavesFew (p : Pass Element) (a : Stays T S) : Type 0 where
      pub stays : (c : ℕ) (stay : Stay T) → place_at a c ≡ Some (Open stay) → times_left c (seen p) + leaves_of stay ≤ slice_index at.limits.leaves c
      pub lies : (c : ℕ) (v : Vacant T S) → place_at a c ≡ Some (Vacant' v) → times_left c (seen p) + v.leaves ≤ slice_index at.limits.leaves c

    -- where its items were sent
    pub sent_there : (p : Pass Element) (a : Stays T S) (c n : ℕ) (items : List T) → Serves at p a c items n → sent_in (place_at a c) ≡ items
    sent_there p a c n items has = ap sent_in has.is_open ∙ has.its_items

    -- a part still serves, when its pass has seen more
    pub serves_on : (p q : Pass Element) (a b : Stays T S) (c n m : ℕ) (items : List T) → number q ≡ number p → Begins (seen p) (seen q) → SameAt (place_at a c) (place_at b c) → n ≤ m
        → LeavesFew q b → Serves at p a c items n → Serves at q b c items m
    serves_on p q a b c n m items same grows kept le may has =
        let o = open_at_both (place_at a c) (place_at b c) has.stay has.is_open kept in
        let most = may.stays c o.0 o.1 in
        let more = left_more c (seen p) (seen q) grows in
        record {
          stay = o.0;
          is_open = o.1;
          its_items = o.2.sent ∙ has.its_items;
          before = fed_on at (number p) (number q) c (length (before_of has.stay)) (length (before_of o.0)) (seen p) (seen q) grows same (ap length o.2.stay.before) (omega (arith, most, has.left, o.2.stay.leaves)) has.before;
          leaves = omega (arith, has.leaves, o.2.stay.leaves, le);
          left = omega (arith, has.left, o.2.stay.leaves, more);
        }

    -- one item more was pushed there, or none
    pub serves_next : (p : Pass Element) (a b : Stays T S) (c n : ℕ) (items now : List T) (stay next : Stay T) → Serves at p a c items n → place_at a c ≡ Some (Open stay) → place_at b c ≡ Some (Open next)
        → SameStay stay next → (sent_of stay ≡ items → sent_of next ≡ now) → Serves at p b c now n
    serves_next p a b c n items now stay next has was is same sent =
        let one : has.stay ≡ stay = same_stay a c has.stay stay has.is_open was in
        let before : before_of next ≡ before_of has.stay = same.before ∙ ap before_of (sym one) in
        record {
          stay = next;
          is_open = is;
          its_items = sent (ap sent_of (sym one) ∙ has.its_items);
          before = has.before ∙ sym (ap length before);
          leaves = omega (arith, has.leaves, same.leaves, ap leaves_of one);
          left = omega (arith, has.left, same.leaves, ap leaves_of one);
        }

    -- a part that lay there was put in
    pub serves_begun : (p : Pass Element) (b : Stays T S) (c n : ℕ) (items : List T) (u v : Vacant T S) (stay : Stay T) → u ≡ v → place_at b c ≡ Some (Open stay) → IsBegun v stay → sent u.producer ≡ items
        → most_leaves ≤ u.leaves + n → slice_index at.limits.leaves c ≤ times_left c (seen p) + u.leaves → WasFed at (number p) c (length items) (seen p) → Serves at p b c items n
    serves_begun p b c n items u v stay one is begun lay leaves all fed_all =
        let its_items : sent v.producer ≡ items = subst (λ (x : Vacant T S). sent x.producer ≡ items) one lay in
        let left : most_leaves ≤ v.leaves + n = subst (λ (x : Vacant T S). most_leaves ≤ x.leaves + n) one leaves in
        let rest = subst (λ (x : Vacant T S). slice_index at.limits.leaves c ≤ times_left c (seen p) + x.leaves) one all in
        let before : before_of stay ≡ items = begun.before ∙ its_items in
        record {
          stay = stay;
          is_open = is;
          its_items = ap sent begun.ring ∙ its_items;
          before = subst (λ (l : List T). WasFed at (number p) c (length l) (seen p)) (sym before) fed_all;
          leaves = omega (arith, left, begun.leaves);
          left = omega (arith, rest, begun.leaves);
        }

    -- one that was at no squeue yet was put in
    pub serves_first : (p : Pass Element) (b : Stays T S) (c : ℕ) (u v : Vacant T S) (stay : Stay T) → u ≡ v → place_at b c ≡ Some (Open stay) → IsBegun v stay → sent u.producer ≡ []
        → (most_leaves ≤ u.leaves) × (slice_index at.limits.leaves c ≤ u.leaves) → LeavesFew p b → Serves at p b c [] 0
    serves_first p b c u v stay one is begun lay leaves may =
        let most = may.stays c stay is in
        let none : times_left c (seen p) ≡ 0 = omega (arith, most, leaves.1, begun.leaves, ap (λ (x : Vacant T S). x.leaves) one) in
        serves_begun p b c 0 [] u v stay one is begun lay (omega (arith, leaves.0)) (omega (arith, leaves.1)) (none_fed at (number p) c 0 (seen p) none refl)

    -- the part of a place that was closed had the same when it was put in again
    pub fed_begun : (p q : Pass Element) (b : Stays T S) (c n : ℕ) (u v : Vacant T S) (stay : Stay T) → u ≡ v → place_at b c ≡ Some (Open stay) → IsBegun v stay → number q ≡ number p → Begins (seen p) (seen q)
        → LeavesFew q b → slice_index at.limits.leaves c ≤ times_left c (seen p) + u.leaves → WasFed at (number p) c n (seen p)
        → WasFed at (number q) c n (seen q) × (slice_index at.limits.leaves c ≤ times_left c (seen q) + u.leaves)
    fed_begun p q b c n u v stay one is begun same grows few left has =
        let most = few.stays c stay is in
        let more = left_more c (seen p) (seen q) grows in
        (fed_on at (number p) (number q) c n n (seen p) (seen q) grows same refl (omega (arith, most, left, begun.leaves, ap (λ (x : Vacant T S). x.leaves) one)) has, omega (arith, left, more))

    -- a part that lies there had the same, when its pass has seen more
    pub fed_still : (p q : Pass Element) (b : Stays T S) (c n : ℕ) (v : Vacant T S) → number q ≡ number p → Begins (seen p) (seen q) → place_at b c ≡ Some (Vacant' v) → LeavesFew q b
        → slice_index at.limits.leaves c ≤ times_left c (seen p) + v.leaves → WasFed at (number p) c n (seen p) → WasFed at (number q) c n (seen q) × (slice_index at.limits.leaves c ≤ times_left c (seen q) + v.leaves)
    fed_still p q b c n v same grows is may left has =
        let most = may.lies c v is in
        let more = left_more c (seen p) (seen q) grows in
        (fed_on at (number p) (number q) c n n (seen p) (seen q) grows same refl (omega (arith, most, left)) has, omega (arith, left, more))

module _ {R T S : Type 0} (limits : R → Limits) (s : Named R) where
  pub leaves_few : {W : Type 0} (step : Keyed W T S → S → T → S → Type 0) (o : Keyed W T S) (p : Pass Element) (a : Stays T S) → Knows IsFirst step limits s o p a → LeavesFew (setting_of limits s.given) p a
  leaves_few step o p a knows =
      record {
        stays = λ c stay at.
            let h = knows.each c (Open stay) at in
            subst (λ (d : ℕ). times_left d (seen p) + leaves_of stay ≤ slice_index (limits s.given.first).leaves d) h.stream h.leaves.1;
        lies = λ c v at.
            let h = knows.each c (Vacant' v) at in
            subst (λ (d : ℕ). times_left d (seen p) + v.leaves ≤ slice_index (limits s.given.first).leaves d) h.stream h.away.leaves;
      }

  -- a part was taken out: it had a feed for each of its items
  pub fed_all : (p q : Pass Element) (a b : Stays T S) (c n : ℕ) (items : List T) (stay : Stay T) (v : Vacant T S) → Serves (setting_of limits s.given) p a c items n → place_at a c ≡ Some (Open stay)
      → place_at b c ≡ Some (Vacant' v) → leaves_of stay ≡ v.leaves + 1 → LeavesFew (setting_of limits s.given) q b
      → Moved limits s (Done.Out c) [] p q → fed (acts (setting_of limits s.given) (seen q) c) ≡ pushed_of stay → number q ≡ number p
      → WasFed (setting_of limits s.given) (number q) c (length items) (seen q) × (slice_index (limits s.given.first).leaves c ≤ times_left c (seen q) + v.leaves)
  fed_all p q a b c n items stay v has at lies one_less may moved feeds same =
      let one : has.stay ≡ stay = same_stay a c has.stay stay has.is_open at in
      let sums : length items ≡ length (before_of has.stay) + pushed_of stay =
      omega (arith, has.stay.count, ap length has.its_items, ap pushed_of one) in
      let most = may.lies c v lies in
      let leaves = ap leaves_of one in
      let fed_now = fed_more limits s c (length (before_of has.stay)) (pushed_of stay) (length items) p q has.before moved feeds sums same (omega (arith, most, has.left, leaves, one_less)) in
      let more = fed_now.1 in
      (fed_now.0, omega (arith, has.left, leaves, one_less, more))
