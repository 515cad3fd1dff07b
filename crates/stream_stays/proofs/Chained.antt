-- What a pass knows of its places after a push, and after its chain was entered.
use Rattle.std.proofs.Common.{◌≡◌, ◌≢◌, Global, ℕ, ◌+◌, ◌%◌, ◌==◌, ◌≤◌, ◌<◌, Bool, true, false, if◌then◌else◌, inl, inr, Option, Some, List, [], ◌∷◌, ◌++◌, length, slice_index, refl, ap, sym, ◌∙◌, subst, arith}
use Rattle.std.specs.Prelude.{◌⊎◌, Contains, Vec, slice_get, vec_capacity}
use Rattle.std.proofs.lemmas.Bool.Decides.{nat_tests}
use Rattle.std.proofs.lemmas.List.{append-nil, length-append}
use Rattle.std.proofs.lemmas.List.Elements.{Contains-push_cases}
use Rattle.rtrb.specs.declared.AnyItems.{AnyItems}
use Rattle.rtrb.specs.declared.consumer.Consumer.{Consumer}
use Rattle.turn_gate.specs.Passes.{number, seen}
use Rattle.turn_gate.specs.declared.pass.Pass.{Pass}
use Rattle.perimeter_core.specs.declared.entries.Feed.{Feed as FeedOf}
use Rattle.perimeter_core.specs.Perimeter.{State, is_here}
use Rattle.perimeter_core.specs.History.{Element, Limits, Setting, ask_quota, feed_quota, run}
use Rattle.perimeter_core.specs.Deeds.{due, entries, feeds_of}
use Rattle.perimeter_core.specs.Legal.{Enters, asks_by, feeds_by, one_more}
use Rattle.squeue_state.specs.Naming.{Named, setting_of}
use Rattle.squeue_state.specs.declared.guarded.Life.{Life}
use Rattle.squeue_enter.specs.Entering.{Brought, MayEnter, MayGoOn}
use Rattle.squeue_enter.proofs.Bringing.{one_first}
use Rattle.conn_migrate.specs.Moving.{IsKept}
use Rattle.squeue_streams.specs.Taking.{most_feeds}
use Rattle.stream_stays.specs.declared.place.Place.{Place}
use Rattle.stream_stays.specs.declared.place.Place.TheVariants.{Open, Out, Vacant as Vacant'}
use Rattle.stream_stays.specs.declared.place.Stays.{Stays}
use Rattle.stream_stays.specs.declared.stay.Stay.{Stay}
use Rattle.stream_stays.specs.Staying.{HasLife, IsOfRing, SameStay, entered_of, producer_of, pushed_of, stream_of}
use Rattle.stream_stays.specs.Places.{HasNoRoom, IsOpen, IsPlace, Knows, OpenAt, SameButPlaces, SameElsewhere, chain_of, life_of, place_at, places_of, touched_of}
use Rattle.stream_stays.proofs.Rings.{of_ring}

longer_first : (b : Bool) (m k : ℕ) (xs ys : List ℕ) → length xs ≡ length ys + k → length (if b then m ∷ xs else xs) ≡ length (if b then m ∷ ys else ys) + k
longer_first true m k xs ys is = omega (arith, is)
longer_first false m k xs ys is = is

one_feed : (b : Bool) (n : ℕ) → length (if b then n ∷ [] else []) ≡ 0 + (if b then 1 else 0)
one_feed true n = refl
one_feed false n = refl

-- one feed more behind a chain
feeds_end : (d c n : ℕ) (es : List FeedOf) → length (feeds_of d (entries (es ++ record { c = c; n = n } ∷ []))) ≡ length (feeds_of d (entries es)) + (if c == d then 1 else 0)
feeds_end d c n [] = one_feed (c == d) n
feeds_end d c n (e ∷ es) = longer_first (e.c == d) e.n (if c == d then 1 else 0) _ _ (feeds_end d c n es)

enters_end : (S : Setting) (t : State) (p : ℕ) (next : ℕ → ℕ) (es : List FeedOf) (c n : ℕ) → Enters S t p next (entries es) → p ≡ c % S.rings → is_here t c ≡ true → n ≡ next c + length (feeds_of c (entries es)) → n < slice_index S.limits.feeds c
    → Enters S t p next (entries (es ++ record { c = c; n = n } ∷ []))
enters_end S t p next [] c n e ring here is below = (ring, here, omega (arith, is), below, tt)
enters_end S t p next (f ∷ es) c n e ring here is below =
    (e.0, e.1, e.2, e.3, enters_end S t p (one_more f.c next) es c n e.4 ring here (is ∙ one_first (f.c == c) (next c) f.n (feeds_of c (entries es))) below)

-- one stay is at a place
pub one_open : {T S : Type 0} (x : Option (Place T S)) (a b : Stay T) → x ≡ Some (Open a) → x ≡ Some (Open b) → a ≡ b
one_open x a b is other = cc (sym is ∙ other)

module _ {T S O : Type 0} (begins : O → ℕ → Consumer T Global AnyItems → S → Type 0) (step : O → S → T → S → Type 0) {R : Type 0} (limits : R → Limits) (s : Named R) (o : O) where
  -- the same stay with the same counts
  pub open_same : (p : Pass Element) (chain : List FeedOf) (c : ℕ) (a b : Stay T) → SameStay a b → pushed_of b ≡ pushed_of a → entered_of b ≡ entered_of a → OpenAt begins step limits s o p chain c a → OpenAt begins step limits s o p chain c b
  open_same p chain c a b same pushed entered at =
      record {
        stream = same.stream ∙ at.stream;
        its_ring = at.its_ring ∙ ap (λ (d : ℕ). d % s.given.rings) (sym same.stream);
        range = subst (λ (d : ℕ). d < length s.given.starts) (sym same.stream) at.range;
        here = ap (λ (d : ℕ). is_here (run (setting_of limits s.given) (seen p)) d) same.stream ∙ at.here;
        due = ap (λ (d : ℕ). due (seen p) d + length (feeds_of d (entries chain))) same.stream ∙ (at.due ∙ sym pushed);
        handed = entered ∙ (at.handed ∙ sym pushed);
        numbers = rw same.stream at.numbers;
        leaves = rw (same.stream, same.leaves) at.leaves;
        ring = subst (λ (d : ℕ). IsOfRing begins o d (producer_of b)) (sym same.stream) (of_ring begins o (stream_of a) (producer_of a) (producer_of b) same.ring at.ring);
      }

  -- one item more
  open_more : (p : Pass Element) (chain : List FeedOf) (c n : ℕ) (a b : Stay T) → SameStay a b → pushed_of b ≡ pushed_of a + 1 → entered_of b ≡ pushed_of a + 1 → OpenAt begins step limits s o p chain c a
      → OpenAt begins step limits s o p (chain ++ record { c = c; n = n } ∷ []) c b
  open_more p chain c n a b same pushed entered at =
      let same_c : stream_of b ≡ c = same.stream ∙ at.stream in
      let mine : (c == c) ≡ true = grind (arith, nat_tests) in
      let was : due (seen p) c + length (feeds_of c (entries chain)) ≡ pushed_of a = ap (λ (d : ℕ). due (seen p) d + length (feeds_of d (entries chain))) (sym at.stream) ∙ at.due in
      let more : length (feeds_of c (entries (chain ++ record { c = c; n = n } ∷ []))) ≡ length (feeds_of c (entries chain)) + 1 = feeds_end c c n chain ∙ ap (λ (b : Bool). length (feeds_of c (entries chain)) + (if b then 1 else 0)) mine in
      let now : due (seen p) c + length (feeds_of c (entries (chain ++ record { c = c; n = n } ∷ []))) ≡ pushed_of b = omega (arith, was, more, pushed) in
      record {
        stream = same_c;
        its_ring = at.its_ring ∙ ap (λ (d : ℕ). d % s.given.rings) (sym same.stream);
        range = subst (λ (d : ℕ). d < length s.given.starts) (sym same.stream) at.range;
        here = ap (λ (d : ℕ). is_here (run (setting_of limits s.given) (seen p)) d) same.stream ∙ at.here;
        due = ap (λ (d : ℕ). due (seen p) d + length (feeds_of d (entries (chain ++ record { c = c; n = n } ∷ [])))) same_c ∙ now;
        handed = entered ∙ sym pushed;
        numbers = rw same.stream at.numbers;
        leaves = rw (same.stream, same.leaves) at.leaves;
        ring = subst (λ (d : ℕ). IsOfRing begins o d (producer_of b)) (sym same.stream) (of_ring begins o (stream_of a) (producer_of a) (producer_of b) same.ring at.ring);
      }

  -- it is none of another place
  place_beside : (p : Pass Element) (chain : List FeedOf) (c n d : ℕ) (place : Place T S) → d ≢ c → IsPlace begins step limits s o p chain d place → IsPlace begins step limits s o p (chain ++ record { c = c; n = n } ∷ []) d place
  place_beside p chain c n d (Vacant' v) other at = at
  place_beside p chain c n d Out other at = tt
  place_beside p chain c n d (Open stay) other at =
      let none : (c == stream_of stay) ≡ false = (let e : stream_of stay ≡ d = at.stream in grind (arith, nat_tests)) in
      let more : length (feeds_of (stream_of stay) (entries (chain ++ record { c = c; n = n } ∷ []))) ≡ length (feeds_of (stream_of stay) (entries chain)) + 0 =
      feeds_end (stream_of stay) c n chain ∙ ap (λ (b : Bool). length (feeds_of (stream_of stay) (entries chain)) + (if b then 1 else 0)) none in
      let was = at.due in
      record {
        stream = at.stream;
        its_ring = at.its_ring;
        range = at.range;
        here = at.here;
        due = omega (arith, was, more);
        handed = at.handed;
        numbers = at.numbers;
        leaves = at.leaves;
        ring = at.ring;
      }

  -- what is so of the place at which something changed, and of the others, is so of each
  pub each_by : (p q : Pass Element) (c : ℕ) (old new : Stays T S) (place : Place T S) → SameElsewhere c old new → place_at new c ≡ Some place → IsPlace begins step limits s o q (chain_of new) c place
      → ((d : ℕ) (other : Place T S) → d ≢ c → IsPlace begins step limits s o p (chain_of old) d other → IsPlace begins step limits s o q (chain_of new) d other)
      → Knows begins step limits s o p old → (d : ℕ) (other : Place T S) → place_at new d ≡ Some other → IsPlace begins step limits s o q (chain_of new) d other
  each_by p q c old new place elsewhere at is others knows d other there = go (d == c) refl
    where
      go : (b : Bool) → (d == c) ≡ b → IsPlace begins step limits s o q (chain_of new) d other
      go true e =
          let same : d ≡ c = grind (arith, nat_tests) in
          let one : place ≡ other = cc (sym at ∙ (ap (place_at new) (sym same) ∙ there)) in
          subst (λ (x : ℕ). IsPlace begins step limits s o q (chain_of new) x other) (sym same) (subst (λ (x : Place T S). IsPlace begins step limits s o q (chain_of new) c x) one is)
      go false e =
          let away : d ≢ c = λ (same : d ≡ c). (let t : (d == c) ≡ true = grind (arith, nat_tests) in cc (sym t ∙ e)) in
          others d other away (knows.each d other (sym (elsewhere.others d away) ∙ there))

  -- a place that was open still is
  touched_on : (c d : ℕ) (old new : Stays T S) (b : Stay T) → place_at new c ≡ Some (Open b) → SameElsewhere c old new → IsOpen old d → IsOpen new d
  touched_on c d old new b now elsewhere at = go (d == c) refl
    where
      go : (x : Bool) → (d == c) ≡ x → IsOpen new d
      go true e = let same : d ≡ c = grind (arith, nat_tests) in (b, ap (place_at new) same ∙ now)
      go false e =
          let away : d ≢ c = λ (same : d ≡ c). (let t : (d == c) ≡ true = grind (arith, nat_tests) in cc (sym t ∙ e)) in
          (at.0, elsewhere.others d away ∙ at.1)

  -- an item was refused
  pub knows_refused : (p : Pass Element) (c : ℕ) (old new : Stays T S) (a b : Stay T) → place_at old c ≡ Some (Open a) → place_at new c ≡ Some (Open b) → SameElsewhere c old new → SameStay a b → pushed_of b ≡ pushed_of a
      → entered_of b ≡ entered_of a → life_of new ≡ life_of old → chain_of new ≡ chain_of old → touched_of new ≡ touched_of old → Knows begins step limits s o p old → Knows begins step limits s o p new
  knows_refused p c old new a b was now elsewhere same pushed entered life chain touched knows =
      record {
        life = subst (λ (l : Life). HasLife limits s l p) (sym life) knows.life;
        chain = subst (λ (es : List FeedOf). Enters (setting_of limits s.given) (run (setting_of limits s.given) (seen p)) (number p) (due (seen p)) (entries es)) (sym chain) knows.chain;
        quota = rw (life, chain) knows.quota;
        each =
            each_by p p c old new (Open b) elsewhere now
            (subst (λ (es : List FeedOf). OpenAt begins step limits s o p es c b) (sym chain) (open_same p (chain_of old) c a b same pushed entered (knows.each c (Open a) was)))
            (λ d other away at. subst (λ (es : List FeedOf). IsPlace begins step limits s o p es d other) (sym chain) at) knows;
        touched = λ d there. touched_on c d old new b now elsewhere (knows.touched d (subst (λ (xs : List ℕ). Contains xs d) touched there));
      }

  -- an item was pushed, and its feed waits
  pub knows_pushed : (p : Pass Element) (c n : ℕ) (old new : Stays T S) (a b : Stay T) → place_at old c ≡ Some (Open a) → place_at new c ≡ Some (Open b) → SameElsewhere c old new → SameStay a b → n ≡ pushed_of a → pushed_of b ≡ n + 1
      → entered_of b ≡ n + 1 → (life_of old).feeds ≡ (life_of new).feeds + 1 → (life_of new).asks ≡ (life_of old).asks → chain_of new ≡ chain_of old ++ record { c = c; n = n } ∷ [] → touched_of new ≡ touched_of old ++ c ∷ []
      → Knows begins step limits s o p old → Knows begins step limits s o p new
  knows_pushed p c n old new a b was now elsewhere same number_is pushed entered feeds asks chain touched knows =
      let S0 : Setting = setting_of limits s.given in
      let at : OpenAt begins step limits s o p (chain_of old) c a = knows.each c (Open a) was in
      let more : pushed_of b ≡ pushed_of a + 1 = omega (arith, number_is, pushed) in
      let handed : entered_of b ≡ pushed_of a + 1 = omega (arith, number_is, entered) in
      let due_c : n ≡ due (seen p) c + length (feeds_of c (entries (chain_of old))) = number_is ∙ sym (ap (λ (d : ℕ). due (seen p) d + length (feeds_of d (entries (chain_of old)))) (sym at.stream) ∙ at.due) in
      let ring_c : number p ≡ c % s.given.rings = at.its_ring ∙ ap (λ (d : ℕ). d % s.given.rings) at.stream in
      let here_c : is_here (run S0 (seen p)) c ≡ true = ap (λ (d : ℕ). is_here (run S0 (seen p)) d) (sym at.stream) ∙ at.here in
      let numbers_c = subst (λ (d : ℕ). most_feeds ≤ slice_index (limits s.given.first).feeds d) at.stream at.numbers in
      let bound = b.order.1 in
      let below : n < slice_index (limits s.given.first).feeds c = omega (arith, numbers_c, bound, pushed) in
      let few = knows.quota in
      let life_feeds = knows.life.feeds in
      let life_asks = knows.life.asks in
      let longer = length-append (chain_of old) (record { c = c; n = n } ∷ []) in
      let chain_length : length (chain_of new) ≡ length (chain_of old) + 1 = ap length chain ∙ longer in
      record {
        life =
            record {
              pass = knows.life.pass;
              no_worker = knows.life.no_worker;
              idle = knows.life.idle;
              feeds = omega (arith, life_feeds, feeds);
              asks = omega (arith, life_asks, asks);
            };
        chain =
            subst (λ (es : List FeedOf). Enters S0 (run S0 (seen p)) (number p) (due (seen p)) (entries es)) (sym chain)
            (enters_end S0 (run S0 (seen p)) (number p) (due (seen p)) (chain_of old) c n knows.chain ring_c here_c due_c below);
        quota = omega (arith, few, chain_length, feeds);
        each =
            each_by p p c old new (Open b) elsewhere now (subst (λ (es : List FeedOf). OpenAt begins step limits s o p es c b) (sym chain) (open_more p (chain_of old) c n a b same more handed at))
            (λ d other away there. subst (λ (es : List FeedOf). IsPlace begins step limits s o p es d other) (sym chain) (place_beside p (chain_of old) c n d other away there)) knows;
        touched = λ d there.
            elim (Contains-push_cases (touched_of old) c d (subst (λ (xs : List ℕ). Contains xs d) touched there)) [
              | inl before ↦ touched_on c d old new b now elsewhere (knows.touched d before)
              | inr same_place ↦ (b, ap (place_at new) (sym same_place) ∙ now)
            ];
      }

  -- the pass may enter its chain
  pub may_enter_chain : (p : Pass Element) (st : Stays T S) → Knows begins step limits s o p st → MayEnter limits s p (chain_of st)
  may_enter_chain p st knows =
      let few = knows.quota in
      record { pass = knows.life.pass; no_worker = knows.life.no_worker; idle = knows.life.idle; enters = knows.chain; quota = omega (arith, few) }

  place_entered : (p q : Pass Element) (es : List FeedOf) (d : ℕ) (place : Place T S) → number q ≡ number p → Brought limits s es p q → IsPlace begins step limits s o p es d place → IsPlace begins step limits s o q [] d place
  place_entered p q es d Out same b at = tt
  place_entered p q es d (Vacant' v) same b at =
      let few = at.away.leaves in
      record {
        stream = at.stream;
        away =
            record {
              ring = same ∙ at.away.ring;
              range = at.away.range;
              away = b.here v.stream at.away.ring ∙ at.away.away;
              numbers = at.away.numbers;
              leaves = omega (arith, b.left v.stream at.away.ring, few);
            };
        part = at.part;
        ring = at.ring;
        empty = at.empty;
      }
  place_entered p q es d (Open stay) same b at =
      let few = at.leaves.1 in
      let was = at.due in
      record {
        stream = at.stream;
        its_ring = same ∙ at.its_ring;
        range = at.range;
        here = b.here (stream_of stay) at.its_ring ∙ at.here;
        due = omega (arith, b.next (stream_of stay) at.its_ring, was);
        handed = at.handed;
        numbers = at.numbers;
        leaves = (at.leaves.0, omega (arith, b.left (stream_of stay) at.its_ring, few));
        ring = at.ring;
      }

  -- the chain was entered
  pub knows_entered : (p q : Pass Element) (old new : Stays T S) → number q ≡ number p → Brought limits s (chain_of old) p q → MayGoOn limits s (chain_of old) p q → places_of new ≡ places_of old → life_of new ≡ life_of old
      → touched_of new ≡ touched_of old → chain_of new ≡ [] → Knows begins step limits s o p old → Knows begins step limits s o q new
  knows_entered p q old new same b on places life touched none knows =
      let S0 : Setting = setting_of limits s.given in
      let may : MayEnter limits s q [] = on [] (subst (λ (es : List FeedOf). MayEnter limits s p es) (sym (append-nil (chain_of old))) (may_enter_chain p old knows)) in
      let feeds_at : feeds_by (number q) (seen q) ≡ feeds_by (number p) (seen q) = ap (λ (n : ℕ). feeds_by n (seen q)) same in
      let asks_at : asks_by (number q) (seen q) ≡ asks_by (number p) (seen q) = ap (λ (n : ℕ). asks_by n (seen q)) same in
      let feed_at : feed_quota S0 (number q) ≡ feed_quota S0 (number p) = ap (feed_quota S0) same in
      let ask_at : ask_quota S0 (number q) ≡ ask_quota S0 (number p) = ap (ask_quota S0) same in
      let few = knows.quota in
      let asks = knows.life.asks in
      let feeds_now : (life_of new).feeds ≡ (life_of old).feeds = ap (λ (l : Life). l.feeds) life in
      let asks_now : (life_of new).asks ≡ (life_of old).asks = ap (λ (l : Life). l.asks) life in
      let no_more : length (chain_of new) ≡ 0 = ap length none in
      record {
        life =
            record {
              pass = may.pass;
              no_worker = may.no_worker;
              idle = may.idle;
              feeds = omega (arith, feeds_at, feed_at, b.feeds, few, feeds_now);
              asks = omega (arith, asks_at, ask_at, b.asks, asks, asks_now);
            };
        chain = subst (λ (es : List FeedOf). Enters S0 (run S0 (seen q)) (number q) (due (seen q)) (entries es)) (sym none) tt;
        quota = omega (arith, feeds_at, feed_at, b.feeds, few, feeds_now, no_more);
        each = λ d place there.
            subst (λ (es : List FeedOf). IsPlace begins step limits s o q es d place) (sym none)
            (place_entered p q (chain_of old) d place same b (knows.each d place (ap (λ (xs : List (Place T S)). slice_get xs d) (sym places) ∙ there)));
        touched = λ d there.
            let at = knows.touched d (subst (λ (xs : List ℕ). Contains xs d) touched there) in
            (at.0, ap (λ (xs : List (Place T S)). slice_get xs d) places ∙ at.1);
      }

  -- what was so of a place still is, where the pass did nothing to it
  pub place_kept : (p q : Pass Element) (es : List FeedOf) (d : ℕ) (place : Place T S) → number q ≡ number p → ((e : ℕ) → e ≡ d → number p ≡ e % s.given.rings → IsKept (setting_of limits s.given) e (seen p) (seen q))
      → IsPlace begins step limits s o p es d place → IsPlace begins step limits s o q es d place
  place_kept p q es d Out same kept at = tt
  place_kept p q es d (Vacant' v) same kept at =
      let k = kept v.stream at.stream at.away.ring in
      let few = at.away.leaves in
      record {
        stream = at.stream;
        away = record { ring = same ∙ at.away.ring; range = at.away.range; away = k.here ∙ at.away.away; numbers = at.away.numbers; leaves = omega (arith, k.left, few) };
        part = at.part;
        ring = at.ring;
        empty = at.empty;
      }
  place_kept p q es d (Open stay) same kept at =
      let k = kept (stream_of stay) at.stream at.its_ring in
      let few = at.leaves.1 in
      let was = at.due in
      record {
        stream = at.stream;
        its_ring = same ∙ at.its_ring;
        range = at.range;
        here = k.here ∙ at.here;
        due = omega (arith, k.next, was);
        handed = at.handed;
        numbers = at.numbers;
        leaves = (at.leaves.0, omega (arith, k.left, few));
        ring = at.ring;
      }

  kept_waiting : (p q : Pass Element) (e : ℕ) → Brought limits s [] p q → number p ≡ e % s.given.rings → IsKept (setting_of limits s.given) e (seen p) (seen q)
  kept_waiting p q e b ring =
      let next : due (seen q) e ≡ due (seen p) e + 0 = b.next e ring in
      record { here = b.here e ring; next = omega (arith, next); left = b.left e ring }

  -- the turn found no room for the chain, and entered nothing
  pub knows_waited : (p q : Pass Element) (st : Stays T S) → number q ≡ number p → Brought limits s [] p q → MayGoOn limits s [] p q → Knows begins step limits s o p st → Knows begins step limits s o q st
  knows_waited p q st same b on knows =
      let S0 : Setting = setting_of limits s.given in
      let may : MayEnter limits s q (chain_of st) = on (chain_of st) (may_enter_chain p st knows) in
      let feeds_at : feeds_by (number q) (seen q) ≡ feeds_by (number p) (seen q) = ap (λ (n : ℕ). feeds_by n (seen q)) same in
      let asks_at : asks_by (number q) (seen q) ≡ asks_by (number p) (seen q) = ap (λ (n : ℕ). asks_by n (seen q)) same in
      let feed_at : feed_quota S0 (number q) ≡ feed_quota S0 (number p) = ap (feed_quota S0) same in
      let ask_at : ask_quota S0 (number q) ≡ ask_quota S0 (number p) = ap (ask_quota S0) same in
      let no_feed : feeds_by (number p) (seen q) ≡ feeds_by (number p) (seen p) + 0 = b.feeds in
      let few = knows.quota in
      let feeds = knows.life.feeds in
      let asks = knows.life.asks in
      record {
        life =
            record {
              pass = may.pass;
              no_worker = may.no_worker;
              idle = may.idle;
              feeds = omega (arith, feeds_at, feed_at, no_feed, feeds);
              asks = omega (arith, asks_at, ask_at, b.asks, asks);
            };
        chain = may.enters;
        quota = omega (arith, feeds_at, feed_at, no_feed, few);
        each = λ d place there. place_kept p q (chain_of st) d place same (λ e at ring. kept_waiting p q e b ring) (knows.each d place there);
        touched = knows.touched;
      }

module _ {T S : Type 0} where
  -- nothing changed elsewhere, twice
  pub elsewhere_on : (c : ℕ) (a b d : Stays T S) → SameElsewhere c a b → SameElsewhere c b d → SameElsewhere c a d
  elsewhere_on c a b d x y = record { count = y.count ∙ x.count; others = λ e other. y.others e other ∙ x.others e other }

  pub elsewhere_same : (c : ℕ) (a b d : Stays T S) → SameElsewhere c a b → places_of d ≡ places_of b → SameElsewhere c a d
  elsewhere_same c a b d x same =
      record { count = ap length same ∙ x.count; others = λ e other. ap (λ (xs : List (Place T S)). slice_get xs e) same ∙ x.others e other }

  pub but_on : (a b d : Stays T S) → SameButPlaces a b → SameButPlaces b d → SameButPlaces a d
  but_on a b d x y = record { life = y.life ∙ x.life; chain = y.chain ∙ x.chain; touched = y.touched ∙ x.touched }

  -- there is no room still
  no_room_same : (a b : Stays T S) → SameButPlaces a b → HasNoRoom a → HasNoRoom b
  no_room_same a b same full =
      subst (λ (l : Life). (length (chain_of b) ≡ vec_capacity b.chain) ⊎ (length (touched_of b) ≡ vec_capacity b.touched) ⊎ (l.feeds ≡ 0)) (sym same.life)
      (subst (λ (v : Vec ℕ Global). (length (chain_of b) ≡ vec_capacity b.chain) ⊎ (length v.items ≡ vec_capacity v) ⊎ ((life_of a).feeds ≡ 0)) (sym same.touched)
      (subst (λ (v : Vec FeedOf Global). (length v.items ≡ vec_capacity v) ⊎ (length (touched_of a) ≡ vec_capacity a.touched) ⊎ ((life_of a).feeds ≡ 0)) (sym same.chain) full))

  -- why an item came back
  pub refused : (room : Bool) (a b : Stays T S) (A : Type 0) → SameButPlaces a b → (room ≡ false → HasNoRoom a) → (room ≡ false) ⊎ A → HasNoRoom b ⊎ A
  refused room a b A same full (inl none) = inl (no_room_same a b same (full none))
  refused room a b A same full (inr other) = inr other

module _ {T S O : Type 0} (begins : O → ℕ → Consumer T Global AnyItems → S → Type 0) (step : O → S → T → S → Type 0) {R : Type 0} (limits : R → Limits) (s : Named R) (o : O) (p : Pass Element) (c : ℕ) (old put : Stays T S) (a b : Stay T) (was : place_at old c ≡ Some (Open a)) (now : place_at put c ≡ Some (Open b)) (elsewhere : SameElsewhere c old put) (same : SameButPlaces old put) (stay : SameStay a b) (knows : Knows begins step limits s o p old) where
  -- the stay was put back, and then the feed was added
  pub knows_pushed_by : (n : ℕ) (new : Stays T S) → n ≡ pushed_of a → pushed_of b ≡ n + 1 → entered_of b ≡ n + 1 → (life_of put).feeds ≡ (life_of new).feeds + 1 → (life_of new).asks ≡ (life_of put).asks
      → chain_of new ≡ chain_of put ++ record { c = c; n = n } ∷ [] → touched_of new ≡ touched_of put ++ c ∷ [] → places_of new ≡ places_of put → Knows begins step limits s o p new
  knows_pushed_by n new number_is pushed entered feeds asks chain touched places =
      knows_pushed begins step limits s o p c n old new a b was (ap (λ (xs : List (Place T S)). slice_get xs c) places ∙ now) (elsewhere_same c old put new elsewhere places) stay number_is pushed entered
      (ap (λ (l : Life). l.feeds) (sym same.life) ∙ feeds) (asks ∙ ap (λ (l : Life). l.asks) same.life) (chain ∙ ap (λ (v : Vec FeedOf Global). v.items ++ record { c = c; n = n } ∷ []) same.chain)
      (touched ∙ ap (λ (v : Vec ℕ Global). v.items ++ c ∷ []) same.touched) knows

  -- or it was just put back
  pub knows_refused_by : pushed_of b ≡ pushed_of a → entered_of b ≡ entered_of a → Knows begins step limits s o p put
  knows_refused_by pushed entered =
      knows_refused begins step limits s o p c old put a b was now elsewhere stay pushed entered same.life (ap (λ (v : Vec FeedOf Global). v.items) same.chain) (ap (λ (v : Vec ℕ Global). v.items) same.touched) knows
