-- What a pass knows of its places after it has settled them, opened one or closed one.
use Rattle.std.proofs.Common.{◌≡◌, ◌≢◌, Global, ℕ, ◌+◌, ◌%◌, ◌≤◌, ◌<◌, true, false, Option, Some, None, List, [], length, refl, ap, sym, ◌∙◌, subst, arith}
use Rattle.std.specs.Prelude.{Contains, slice_get, slice_index}
use Rattle.rtrb.specs.declared.AnyItems.{AnyItems}
use Rattle.rtrb.specs.declared.consumer.Consumer.{Consumer}
use Rattle.rtrb.specs.declared.producer.Producer.{Producer}
use Rattle.turn_gate.specs.Passes.{number, seen}
use Rattle.turn_gate.specs.declared.pass.Pass.{Pass}
use Rattle.perimeter_core.specs.declared.entries.Feed.{Feed as FeedOf}
use Rattle.perimeter_core.specs.Perimeter.{is_here}
use Rattle.perimeter_core.specs.History.{Element, Limits, Setting, run}
use Rattle.perimeter_core.specs.Deeds.{acts, due, entries, fed, feeds_of, times_left}
use Rattle.perimeter_core.specs.Legal.{Enters}
use Rattle.squeue_state.specs.Naming.{Named, setting_of}
use Rattle.rtrb.specs.Ring.{SameProducer, sent}
use Rattle.conn_migrate.specs.Moving.{IsKept, MayLeave, RingLearns}
use Rattle.squeue_streams.specs.Taking.{IsStreamOf, items_of, most_feeds}
use Rattle.stream_stays.specs.declared.place.Place.{Place}
use Rattle.stream_stays.specs.declared.place.Place.TheVariants.{Open, Out, Vacant as Vacant'}
use Rattle.stream_stays.specs.declared.place.Stays.{Stays}
use Rattle.stream_stays.specs.declared.stay.Stay.{Stay}
use Rattle.stream_stays.specs.declared.stay.Vacant.{Vacant}
use Rattle.stream_stays.specs.Staying.{HasLife, IsBegun, IsOfRing, StaysAt, leaves_of, producer_of, pushed_of, stream_of}
use Rattle.stream_stays.specs.Places.{IsOpen, IsPlace, Knows, OpenAt, SameElsewhere, VacantAt, chain_of, life_of, place_at, places_of, touched_of}
use Rattle.stream_stays.specs.Settling.{SameAt, SamePlaces}
use Rattle.stream_stays.proofs.Chained.{each_by, open_same, place_kept}
use Rattle.stream_stays.proofs.Knowing.{may_ask}
use Rattle.stream_stays.proofs.Rings.{of_ring}

-- a place isn't both
not_both : {T S : Type 0} (x : Option (Place T S)) (a : Stay T) (v : Vacant T S) → x ≡ Some (Open a) → x ≡ Some (Vacant' v) → ⊥
not_both x a v is other = cc (sym is ∙ other)

pub one_vacant : {T S : Type 0} (x : Option (Place T S)) (a b : Vacant T S) → x ≡ Some (Vacant' a) → x ≡ Some (Vacant' b) → a ≡ b
one_vacant x a b is other = cc (sym is ∙ other)

module _ {T S : Type 0} where
  -- what is elsewhere doesn't depend on the life
  pub elsewhere_by : (c : ℕ) (a b x d : Stays T S) → SameElsewhere c a b → SameElsewhere c x d → places_of x ≡ places_of b → SameElsewhere c a d
  elsewhere_by c a b x d y z same =
      record {
        count = z.count ∙ (ap length same ∙ y.count);
        others = λ e other. z.others e other ∙ (ap (λ (xs : List (Place T S)). slice_get xs e) same ∙ y.others e other);
      }

  -- what was pushed at other places still was
  pub touched_beside : (c d : ℕ) (old new : Stays T S) (v : Vacant T S) → place_at old c ≡ Some (Vacant' v) → SameElsewhere c old new → IsOpen old d → IsOpen new d
  touched_beside c d old new v was elsewhere at =
      let away : d ≢ c = λ (same : d ≡ c). not_both (place_at old c) at.0 v (ap (place_at old) (sym same) ∙ at.1) was in
      (at.0, elsewhere.others d away ∙ at.1)

  -- where nothing was touched nothing is asked of it
  pub none_touched : (st : Stays T S) → touched_of st ≡ [] → (d : ℕ) → Contains (touched_of st) d → IsOpen st d
  none_touched st none d there =
      let nowhere = subst (λ (xs : List ℕ). Contains xs d) none there in
      let below : nowhere.0 < 0 = nowhere.1 in
      absurd (omega (arith, below))

module _ {T S O : Type 0} (begins : O → ℕ → Consumer T Global AnyItems → S → Type 0) (step : O → S → T → S → Type 0) {R : Type 0} (limits : R → Limits) (s : Named R) (o : O) where
  -- an open place may be left
  pub may_leave_open : (p : Pass Element) (st : Stays T S) (c : ℕ) (stay : Stay T) → 1 ≤ (life_of st).asks → place_at st c ≡ Some (Open stay) → Knows begins step limits s o p st → MayLeave limits s c p
  may_leave_open p st c stay some at knows =
      let lies : OpenAt begins step limits s o p (chain_of st) c stay = knows.each c (Open stay) at in
      let more = lies.leaves.0 in
      let few = lies.leaves.1 in
      let left : times_left (stream_of stay) (seen p) < slice_index (limits s.given.first).leaves (stream_of stay) = omega (arith, more, few) in
      record {
        may_ask = may_ask limits s p (life_of st) some knows.life;
        ring = lies.its_ring ∙ ap (λ (d : ℕ). d % s.given.rings) lies.stream;
        here = ap (λ (d : ℕ). is_here (run (setting_of limits s.given) (seen p)) d) (sym lies.stream) ∙ lies.here;
        leaves = subst (λ (d : ℕ). times_left d (seen p) < slice_index (limits s.given.first).leaves d) lies.stream left;
      }

  -- where nothing waits all that was pushed is entered
  pub due_pushed : (p : Pass Element) (chain : List FeedOf) (c : ℕ) (stay : Stay T) → chain ≡ [] → OpenAt begins step limits s o p chain c stay → due (seen p) c ≡ pushed_of stay
  due_pushed p chain c stay none lies =
      let waits : length (feeds_of c (entries chain)) ≡ 0 = ap (λ (es : List FeedOf). length (feeds_of c (entries es))) none in
      let was : due (seen p) c + length (feeds_of c (entries chain)) ≡ pushed_of stay = ap (λ (d : ℕ). due (seen p) d + length (feeds_of d (entries chain))) (sym lies.stream) ∙ lies.due in
      omega (arith, waits, was)

  module _ (p q : Pass Element) (same : number q ≡ number p) (kept : (e : ℕ) → number p ≡ e % s.given.rings → IsKept (setting_of limits s.given) e (seen p) (seen q)) where
    place_settled : (es : List FeedOf) (d : ℕ) (was : Option (Place T S)) (place : Place T S) → SameAt was (Some place) → ((x : Place T S) → was ≡ Some x → IsPlace begins step limits s o p es d x) → IsPlace begins step limits s o q es d place
    place_settled es d None place is at = absurd (cc is)
    place_settled es d (Some (Vacant' v)) place is at =
        let one : Vacant' v ≡ place = cc (sym is) in
        subst (λ (x : Place T S). IsPlace begins step limits s o q es d x) one (place_kept begins step limits s o p q es d (Vacant' v) same (λ e _ ring. kept e ring) (at (Vacant' v) refl))
    place_settled es d (Some Out) place is at =
        let one : Out ≡ place = cc (sym is) in
        subst (λ (x : Place T S). IsPlace begins step limits s o q es d x) one tt
    place_settled es d (Some (Open a)) (Vacant' v) is at = absurd is
    place_settled es d (Some (Open a)) Out is at = absurd is
    place_settled es d (Some (Open a)) (Open b) is at =
        open_same begins step limits s o q es d a b is.stay is.pushed is.entered (place_kept begins step limits s o p q es d (Open a) same (λ e _ ring. kept e ring) (at (Open a) refl))

    -- all places were settled
    pub knows_settled : (old new : Stays T S) → HasLife limits s (life_of new) q → SamePlaces old new → chain_of old ≡ [] → touched_of new ≡ [] → Knows begins step limits s o p old → Knows begins step limits s o q new
    knows_settled old new life places none touched knows =
        let S0 : Setting = setting_of limits s.given in
        let no_chain : chain_of new ≡ [] = places.chain ∙ none in
        let no_more : length (chain_of new) ≡ 0 = ap length no_chain in
        let feeds = life.feeds in
        record {
          life = life;
          chain = subst (λ (es : List FeedOf). Enters S0 (run S0 (seen q)) (number q) (due (seen q)) (entries es)) (sym no_chain) tt;
          quota = omega (arith, feeds, no_more);
          each = λ d place there.
              subst (λ (es : List FeedOf). IsPlace begins step limits s o q es d place) (sym places.chain)
              (place_settled (chain_of old) d (place_at old d) place (subst (λ (x : Option (Place T S)). SameAt (place_at old d) x) there (places.each d)) (λ x at. knows.each d x at));
          touched = none_touched new touched;
        }

    -- the feeds of all that was pushed at an open place are done
    pub fed_each : (st : Stays T S) (c : ℕ) (stay : Stay T) → chain_of st ≡ [] → place_at st c ≡ Some (Open stay)
        → ((d : ℕ) → number p ≡ d % s.given.rings → is_here (run (setting_of limits s.given) (seen q)) d ≡ true → fed (acts (setting_of limits s.given) (seen q) d) ≡ due (seen q) d)
        → Knows begins step limits s o p st → fed (acts (setting_of limits s.given) (seen q) c) ≡ pushed_of stay
    fed_each st c stay none there all knows =
        let lies : OpenAt begins step limits s o p (chain_of st) c stay = knows.each c (Open stay) there in
        let ring : number p ≡ c % s.given.rings = lies.its_ring ∙ ap (λ (d : ℕ). d % s.given.rings) lies.stream in
        let k = kept c ring in
        let here : is_here (run (setting_of limits s.given) (seen q)) c ≡ true = k.here ∙ (ap (λ (d : ℕ). is_here (run (setting_of limits s.given) (seen p)) d) (sym lies.stream) ∙ lies.here) in
        all c ring here ∙ (k.next ∙ due_pushed p (chain_of st) c stay none lies)

  -- what is left of the chain, the life and the touched places where nothing waits
  module _ (p q : Pass Element) (c : ℕ) (old new : Stays T S) (place : Place T S) (same : number q ≡ number p)
      (kept : (e : ℕ) → e ≢ c → number p ≡ e % s.given.rings → IsKept (setting_of limits s.given) e (seen p) (seen q)) (life : HasLife limits s (life_of new) q) (elsewhere : SameElsewhere c old new) (now : place_at new c ≡ Some place)
      (none : chain_of new ≡ []) (was : chain_of old ≡ []) (is : IsPlace begins step limits s o q (chain_of new) c place) (knows : Knows begins step limits s o p old) where
    beside : (d : ℕ) (other : Place T S) → d ≢ c → IsPlace begins step limits s o p (chain_of old) d other → IsPlace begins step limits s o q (chain_of new) d other
    beside d other away at =
        subst (λ (es : List FeedOf). IsPlace begins step limits s o q es d other) (was ∙ sym none)
        (place_kept begins step limits s o p q (chain_of old) d other same (λ e is_d ring. kept e (λ at_c. away (sym is_d ∙ at_c)) ring) at)

    -- something else came to one place
    pub knows_turned : ((d : ℕ) → Contains (touched_of new) d → IsOpen new d) → Knows begins step limits s o q new
    knows_turned touched =
        let S0 : Setting = setting_of limits s.given in
        let no_more : length (chain_of new) ≡ 0 = ap length none in
        let feeds = life.feeds in
        record {
          life = life;
          chain = subst (λ (es : List FeedOf). Enters S0 (run S0 (seen q)) (number q) (due (seen q)) (entries es)) (sym none) tt;
          quota = omega (arith, feeds, no_more);
          each = each_by begins step limits s o p q c old new place elsewhere now is beside knows;
          touched = touched;
        }

  -- a part came to the squeue
  pub opened : (q : Pass Element) (chain : List FeedOf) (c : ℕ) (v : Vacant T S) (stay : Stay T) → chain ≡ [] → v.stream ≡ c → 1 ≤ v.leaves → IsBegun v stay → StaysAt limits s q stay → IsOfRing begins o v.stream v.producer
      → OpenAt begins step limits s o q chain c stay
  opened q chain c v stay none stream some begun stays ring =
      let no_more : length (feeds_of (stream_of stay) (entries chain)) ≡ 0 = ap (λ (es : List FeedOf). length (feeds_of (stream_of stay) (entries es))) none in
      let due_at = stays.due in
      let entered = begun.none.1 in
      let pushed = begun.none.0 in
      record {
        stream = begun.stream ∙ stream;
        its_ring = stays.ring;
        range = stays.range;
        here = stays.here;
        due = omega (arith, due_at, entered, pushed, no_more);
        handed = entered ∙ sym pushed;
        numbers = stays.numbers;
        leaves = (omega (arith, begun.leaves, some), stays.leaves);
        ring = subst (λ (x : Producer T Global AnyItems). IsOfRing begins o (stream_of stay) x) (sym begun.ring) (subst (λ (d : ℕ). IsOfRing begins o d v.producer) (sym begun.stream) ring);
      }

  -- a part was taken out, which has taken all that was pushed
  pub vacated : (p q : Pass Element) (chain : List FeedOf) (a : Stay T) (v : Vacant T S) → number q ≡ number p → RingLearns limits s v.stream false 1 p q → leaves_of a ≡ v.leaves + 1 → IsStreamOf begins step o v.stream v.part → SameProducer (producer_of a) v.producer
      → items_of v.part ≡ sent v.producer → OpenAt begins step limits s o p chain v.stream a → VacantAt begins step limits s o q v.stream v
  vacated p q chain a v same learns fewer part producer items at =
      let few : times_left v.stream (seen p) + leaves_of a ≤ slice_index (limits s.given.first).leaves v.stream =
      subst (λ (d : ℕ). times_left d (seen p) + leaves_of a ≤ slice_index (limits s.given.first).leaves d) at.stream at.leaves.1 in
      let left = learns.left in
      record {
        stream = refl;
        away =
            record {
              ring = same ∙ (at.its_ring ∙ ap (λ (d : ℕ). d % s.given.rings) at.stream);
              range = subst (λ (d : ℕ). d < length s.given.starts) at.stream at.range;
              away = learns.now_here;
              numbers = subst (λ (d : ℕ). most_feeds ≤ slice_index (limits s.given.first).feeds d) at.stream at.numbers;
              leaves = omega (arith, few, left, fewer);
            };
        part = part;
        ring = of_ring begins o v.stream (producer_of a) v.producer producer (subst (λ (d : ℕ). IsOfRing begins o d (producer_of a)) at.stream at.ring);
        empty = items;
      }
