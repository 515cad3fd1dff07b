-- What a ring's passes know when it has moved a connection, or needn't, before the next feed.
use Rattle.std.proofs.Common.{◌≡◌, ◌≢◌, ℕ, ◌+◌, ◌%◌, ◌==◌, ◌&&◌, not, inl, inr, Bool, true, false, List, [], ◌∷◌, ◌++◌, refl, ap, sym, ◌∙◌, subst, arith}
use Rattle.std.proofs.lemmas.Bool.{cases_eq, eq-eqb, ne_eqb}
use Rattle.turn_gate.specs.Passes.{seen}
use Rattle.turn_gate.specs.declared.pass.Pass.{Pass}
use Rattle.perimeter_core.specs.declared.entries.Act.{Act}
use Rattle.perimeter_core.specs.declared.entries.Feed.{Feed as FeedOf}
use Rattle.perimeter_core.specs.declared.marks.SynchAct.{SynchAct}
use Rattle.perimeter_core.specs.Perimeter.{Idle, is_here}
use Rattle.perimeter_core.specs.History.{Element, Limits, run}
use Rattle.perimeter_core.specs.Deeds.{due, times_left}
use Rattle.perimeter_core.specs.Legal.{asks_by, feeds_by}
use Rattle.squeue_state.specs.Naming.{Named, setting_of}
use Rattle.conn_migrate.specs.Moving.{Moved, RingLearns}
use Rattle.histories.specs.Runs.{brought, comes, count, home_before, home_of, is_left_by, leaves, moves, place}
use Rattle.squeue_rings.specs.Rings.{RingAt}
use Rattle.squeue_rings.proofs.Counting.{count_one}
use Rattle.squeue_rings.proofs.Standing.{no_come, no_leave, not_left, other_home, place_before, place_kept, place_other, place_own}

module _ {R : Type 0} (limits : R → Limits) (squeues spread r : ℕ) (done : List FeedOf) (f : FeedOf) (f_number : f.n ≡ brought f.c done) where
  abbrev pub e0 : List FeedOf
  e0 = done ++ f ∷ []

  -- the next feed is reached without a move
  pub reached : moves squeues spread f ≡ false → (s : Named R) (x : Pass Element) → RingAt limits squeues spread r done done s x → RingAt limits squeues spread r done e0 s x
  reached still s x known =
      record {
        pass = known.pass;
        is_number = known.is_number;
        idle = known.idle;
        feeds = known.feeds;
        asks =
            let a = count_one (leaves squeues spread s.given.number) done f false (no_leave squeues spread s.given.number f still) in
            let b = count_one (comes squeues spread s.given.number) done f false (no_come squeues spread s.given.number f still) in
            let h = known.asks in
            omega (arith, a, b, h);
        here = λ c ring lt. known.here c ring lt ∙ ap (λ (p : ℕ). p == s.given.number) (sym (place_kept squeues spread c done f f_number still));
        next = λ c ring lt at. known.next c ring lt (sym (place_kept squeues spread c done f f_number still) ∙ at);
        left = λ c ring.
            let a = count_one (is_left_by squeues spread c s.given.number) done f false (not_left squeues spread c s.given.number f still) in
            let h = known.left c ring in
            omega (arith, a, h);
      }

  module _ (moved : moves squeues spread f ≡ true) where
    apart : home_before squeues spread f ≢ home_of squeues spread f
    apart = other_home squeues spread f moved

    now_at : place squeues spread f.c e0 ≡ home_of squeues spread f
    now_at = place_own squeues spread done f f_number

    was_at : place squeues spread f.c done ≡ home_before squeues spread f
    was_at = place_before squeues spread done f f_number

    and_true : (a b : Bool) → a ≡ true → b ≡ false → (a && not b) ≡ true
    and_true a b i j = ap (λ (x : Bool). x && not b) i ∙ ap not j

    and_false : (a b : Bool) → a ≡ false → (a && b) ≡ false
    and_false a b i = ap (λ (x : Bool). x && b) i

    -- another squeue isn't touched
    pub not_moved : (s : Named R) (x : Pass Element) → s.given.number ≢ home_before squeues spread f → s.given.number ≢ home_of squeues spread f → RingAt limits squeues spread r done done s x → RingAt limits squeues spread r done e0 s x
    not_moved s x a b known =
        let q = s.given.number in
        let from : (home_before squeues spread f == q) ≡ false = ne_eqb (home_before squeues spread f) q (λ e. a (sym e)) in
        let to : (home_of squeues spread f == q) ≡ false = ne_eqb (home_of squeues spread f) q (λ e. b (sym e)) in
        let l : leaves squeues spread q f ≡ false = ap (λ (x : Bool). x && not (home_of squeues spread f == q)) from in
        let m : comes squeues spread q f ≡ false = ap (λ (x : Bool). not (home_before squeues spread f == q) && x) to ∙ with_false (not (home_before squeues spread f == q)) in
        record {
          pass = known.pass;
          is_number = known.is_number;
          idle = known.idle;
          feeds = known.feeds;
          asks = let u = count_one (leaves squeues spread q) done f false l in let v = count_one (comes squeues spread q) done f false m in let h = known.asks in omega (arith, u, v, h);
          here = λ c ring lt. elim (cases_eq f.c c) [
            | inl e ↦ known.here c ring lt ∙ (subst (λ (d : ℕ). (place squeues spread d done == q) ≡ (place squeues spread d e0 == q)) e
                (ap (λ (p : ℕ). p == q) was_at ∙ (from ∙ sym (ap (λ (p : ℕ). p == q) now_at ∙ to))))
            | inr other ↦ known.here c ring lt ∙ ap (λ (p : ℕ). p == q) (sym (place_other squeues spread c done f other))
          ];
          next = λ c ring lt at. elim (cases_eq f.c c) [
            | inl e ↦ absurd (b (sym at ∙ subst (λ (d : ℕ). place squeues spread d e0 ≡ home_of squeues spread f) e now_at))
            | inr other ↦ known.next c ring lt (sym (place_other squeues spread c done f other) ∙ at)
          ];
          left = λ c ring.
              let w : is_left_by squeues spread c q f ≡ false = ap (λ (x : Bool). (f.c == c) && x) l ∙ with_false (f.c == c) in
              let u = count_one (is_left_by squeues spread c q) done f false w in
              let h = known.left c ring in
              omega (arith, u, h);
        }
      where
        with_false : (x : Bool) → (x && false) ≡ false
        with_false true = refl
        with_false false = refl

    -- the pass of the squeue that the connection left
    pub has_left : (a : Named R) (x y : Pass Element) (act : SynchAct) (note : List Act) → a.given.number ≡ home_before squeues spread f → r ≡ f.c % a.given.rings → RingAt limits squeues spread r done done a x → Moved limits a act note x y → RingLearns limits a f.c false 1 x y
        → RingAt limits squeues spread r done e0 a y
    has_left a x y act note at ring known m learns =
        let q = a.given.number in
        let S = setting_of limits a.given in
        let from : (home_before squeues spread f == q) ≡ true = eq-eqb (home_before squeues spread f) q (sym at) in
        let to : (home_of squeues spread f == q) ≡ false = ne_eqb (home_of squeues spread f) q (λ e. apart (sym at ∙ sym e)) in
        let l : leaves squeues spread q f ≡ true = and_true (home_before squeues spread f == q) (home_of squeues spread f == q) from to in
        let n : comes squeues spread q f ≡ false = ap (λ (x : Bool). not x && (home_of squeues spread f == q)) from in
        let gone : (place squeues spread f.c e0 == q) ≡ false = ap (λ (p : ℕ). p == q) now_at ∙ to in
        record {
          pass = m.goes_on.is_pass;
          is_number = m.goes_on.same_number ∙ known.is_number;
          idle = subst (Idle (run S (seen y))) known.is_number m.idle;
          feeds = subst (λ (p : ℕ). feeds_by p (seen y) ≡ feeds_by p (seen x)) known.is_number learns.feeds ∙ known.feeds;
          asks =
              let u = count_one (leaves squeues spread q) done f true l in
              let v = count_one (comes squeues spread q) done f false n in
              let h = known.asks in
              let w = subst (λ (p : ℕ). asks_by p (seen y) ≡ asks_by p (seen x) + 1) known.is_number learns.asks in
              omega (arith, u, v, h, w);
          here = λ c owned lt. elim (cases_eq f.c c) [
            | inl e ↦ subst (λ (d : ℕ). is_here (run S (seen y)) d ≡ (place squeues spread d e0 == q)) e (learns.now_here ∙ sym gone)
            | inr other ↦ (learns.others c (λ e. other (sym e)) (known.is_number ∙ owned)).here ∙ (known.here c owned lt ∙ ap (λ (p : ℕ). p == q) (sym (place_other squeues spread c done f other)))
          ];
          next = λ c owned lt there. elim (cases_eq f.c c) [
            | inl e ↦ absurd (apart (sym at ∙ (sym there ∙ subst (λ (d : ℕ). place squeues spread d e0 ≡ home_of squeues spread f) e now_at)))
            | inr other ↦ (learns.others c (λ e. other (sym e)) (known.is_number ∙ owned)).next ∙ known.next c owned lt (sym (place_other squeues spread c done f other) ∙ there)
          ];
          left = λ c owned. elim (cases_eq f.c c) [
            | inl e ↦ subst (λ (d : ℕ). times_left d (seen y) ≡ count (is_left_by squeues spread d q) e0) e
                (let u = count_one (is_left_by squeues spread f.c q) done f true (ap (λ (x : Bool). x && leaves squeues spread q f) (eq-eqb f.c f.c refl) ∙ l) in let h = known.left f.c ring in let w = learns.left in omega (arith, u, h, w))
            | inr other ↦
                let u = count_one (is_left_by squeues spread c q) done f false (and_false (f.c == c) (leaves squeues spread q f) (ne_eqb f.c c other)) in
                let h = known.left c owned in
                let w = (learns.others c (λ e. other (sym e)) (known.is_number ∙ owned)).left in
                omega (arith, u, h, w)
          ];
        }

    -- the pass of the squeue to which it came, where it is due as many feeds as it had had
    pub has_come : (b : Named R) (x y : Pass Element) (act : SynchAct) (note : List Act) → b.given.number ≡ home_of squeues spread f → r ≡ f.c % b.given.rings → due (seen y) f.c ≡ brought f.c done → RingAt limits squeues spread r done done b x → Moved limits b act note x y
        → RingLearns limits b f.c true 0 x y → RingAt limits squeues spread r done e0 b y
    has_come b x y act note at ring next known m learns =
        let q = b.given.number in
        let S = setting_of limits b.given in
        let from : (home_before squeues spread f == q) ≡ false = ne_eqb (home_before squeues spread f) q (λ e. apart (e ∙ at)) in
        let to : (home_of squeues spread f == q) ≡ true = eq-eqb (home_of squeues spread f) q (sym at) in
        let l : leaves squeues spread q f ≡ false = and_false (home_before squeues spread f == q) (not (home_of squeues spread f == q)) from in
        let n : comes squeues spread q f ≡ true = ap (λ (x : Bool). not x && (home_of squeues spread f == q)) from ∙ to in
        let come : (place squeues spread f.c e0 == q) ≡ true = ap (λ (p : ℕ). p == q) now_at ∙ to in
        record {
          pass = m.goes_on.is_pass;
          is_number = m.goes_on.same_number ∙ known.is_number;
          idle = subst (Idle (run S (seen y))) known.is_number m.idle;
          feeds = subst (λ (p : ℕ). feeds_by p (seen y) ≡ feeds_by p (seen x)) known.is_number learns.feeds ∙ known.feeds;
          asks =
              let u = count_one (leaves squeues spread q) done f false l in
              let v = count_one (comes squeues spread q) done f true n in
              let h = known.asks in
              let w = subst (λ (p : ℕ). asks_by p (seen y) ≡ asks_by p (seen x) + 1) known.is_number learns.asks in
              omega (arith, u, v, h, w);
          here = λ c owned lt. elim (cases_eq f.c c) [
            | inl e ↦ subst (λ (d : ℕ). is_here (run S (seen y)) d ≡ (place squeues spread d e0 == q)) e (learns.now_here ∙ sym come)
            | inr other ↦ (learns.others c (λ e. other (sym e)) (known.is_number ∙ owned)).here ∙ (known.here c owned lt ∙ ap (λ (p : ℕ). p == q) (sym (place_other squeues spread c done f other)))
          ];
          next = λ c owned lt there. elim (cases_eq f.c c) [
            | inl e ↦ subst (λ (d : ℕ). due (seen y) d ≡ brought d done) e next
            | inr other ↦ (learns.others c (λ e. other (sym e)) (known.is_number ∙ owned)).next ∙ known.next c owned lt (sym (place_other squeues spread c done f other) ∙ there)
          ];
          left = λ c owned. elim (cases_eq f.c c) [
            | inl e ↦ subst (λ (d : ℕ). times_left d (seen y) ≡ count (is_left_by squeues spread d q) e0) e
                (let u = count_one (is_left_by squeues spread f.c q) done f false (ap (λ (x : Bool). x && leaves squeues spread q f) (eq-eqb f.c f.c refl) ∙ l) in let h = known.left f.c ring in let w = learns.left in omega (arith, u, h, w))
            | inr other ↦
                let u = count_one (is_left_by squeues spread c q) done f false (and_false (f.c == c) (leaves squeues spread q f) (ne_eqb f.c c other)) in
                let h = known.left c owned in
                let w = (learns.others c (λ e. other (sym e)) (known.is_number ∙ owned)).left in
                omega (arith, u, h, w)
          ];
        }
