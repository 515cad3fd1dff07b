-- What is written out of work that arrives was served, and seen.
use Rattle.std.specs.Prelude.{◌≡◌, ◌≢◌, ℕ, zero, suc, ◌+◌, ◌*◌, ◌==◌, ◌%◌, ◌^◌, ◌<◌, Bool, true, false, Option, None, Some, List, [], ◌∷◌, ◌++◌, Contains, cond, length, map, nat_eq, slice_get}
use Rattle.std.specs.List.{IsDistinct}
use Rattle.std.proofs.Common.{refl, sym, subst, ap, ◌∙◌, arith, append_assoc}
use Rattle.std.proofs.lemmas.Bool.Decides.{nat_tests}
use Rattle.std.proofs.lemmas.List.{append-nil, append_cancel_left}
use Rattle.perimeter_core.specs.declared.entries.Act.TheVariants as Did
use Rattle.perimeter_core.specs.Blocks.{peri}
use Rattle.perimeter_core.specs.Ending.{IsOver}
use Rattle.perimeter_core.specs.History.{run}
use Rattle.perimeter_core.specs.Legal.{Legal}
use Rattle.placed_parts.specs.Standing.{PlaceAt}
use Rattle.squeue_streams.specs.declared.streams.Stream.{Stream}
use Rattle.squeue_streams.specs.Taking.{Takes, items_of, state_of}
use Rattle.squeue_arrivals.specs.Arriving.{IsMadeOf, IsServed, IsServedIn, items_for, keys_of, refused_in}
use Rattle.squeue_arrivals.specs.Stayed.{WasFed}
use Rattle.squeue_arrivals.specs.Watching.{IsPartOf, SawLast}
use Rattle.squeue_arrivals.specs.declared.served.KeyPart.{KeyPart}
use Rattle.squeue_arrivals.specs.declared.served.Refused.{Refused}
use Rattle.squeue_arrivals.specs.declared.served.ServedSource.{ServedSource}
use Rattle.worked_runs.specs.OneArrival.{ComesBy, GaveOne, HasItsItem, closed, ending, looked, setting}

-- the items of the only item's key, and of each other one
its_items : {T : Type 0} (key : ℕ) (item : T) → items_for key ((key, item) ∷ []) ≡ item ∷ []
its_items {T} key item = let own : (key == key) ≡ true = grind (arith, nat_tests) in ap (λ (b : Bool). map (λ (e : ℕ × T). e.1) (cond b ((key, item) ∷ []) [])) own

no_other : {T : Type 0} (key k : ℕ) (item : T) (b : Bool) → (key == k) ≡ b → items_for k ((key, item) ∷ []) ≢ [] → Contains (key ∷ []) k
no_other key k item true is some = (0, omega arith, grind (arith, nat_tests))
no_other {T} key k item false is some = absurd (some (ap (λ (b : Bool). map (λ (e : ℕ × T). e.1) (cond b ((key, item) ∷ []) [])) is))

one_distinct : (k : ℕ) → IsDistinct nat_eq (k ∷ [])
unfolding IsDistinct
one_distinct k = (tt, tt)

one_step : {W T S : Type 0} (begins : W → S → Type 0) (step : W → S → T → S → Type 0) (work : W) (items : List T) (item : T) (from to : S) → items ≡ item ∷ [] → ComesBy begins step work item from to
    → IsMadeOf begins step work items to
one_step {W} {T} begins step work items item from to are is =
    record { first = from; begun = is.begun; taken = subst (λ (xs : List T). Takes (step work) from xs to) (sym are) (to, is.taken, refl) }

module _ {W T S A O : Type 0} (begins : W → S → Type 0) (step : W → S → T → S → Type 0) (origin : A → O) (given : A → List (ℕ × T)) (is_over : A → Type 0) (work : W)
    (source : A) (left : ServedSource A T S) (key : ℕ) (item : T) (gave : GaveOne origin given is_over source left key item) where
  module _ (from to : S) (state : ComesBy begins step work item from to) (parts : left.parts.items ≡ record { key = key; state = to } ∷ []) where
    abbrev part : KeyPart S
    part = record { key = key; state = to }

    its_part : (i : ℕ) (p : KeyPart S) → slice_get (part ∷ []) i ≡ Some p → (i ≡ 0) × (p ≡ part)
    its_part zero p e = (refl, sym (cc e))
    its_part (suc i) p e = absurd (cc e)

    found : (i : ℕ) (p : KeyPart S) → slice_get left.parts.items i ≡ Some p → (i ≡ 0) × (p ≡ part)
    found i p e = its_part i p (subst (λ (ps : List (KeyPart S)). slice_get ps i ≡ Some p) parts e)

    served : IsServed begins step origin given is_over work 1 source left
    served = record {
      all = (key, item) ∷ [];
      its_items = record { gave = rw gave.refused (gave.gave ∙ sym (append-nil (given source ++ (key, item) ∷ []))); same = gave.same; over = λ _. gave.over; cause = λ r e. absurd (cc (sym gave.refused ∙ e)) };
      few = omega (arith, ap length parts);
      distinct = rw parts (one_distinct key);
      each = λ i p e.
          let its = found i p e in
          rw its.1 ((λ none. cc (sym (its_items key item) ∙ none)), one_step begins step work (items_for key ((key, item) ∷ [])) item from to (its_items key item) state);
      every = λ k some. rw parts (no_other key k item (key == k) refl some);
    }

    -- the part's only stay has one feed
    was_fed : (n : ℕ) → n ≡ 1 → WasFed setting 0 0 n ending.history
    was_fed n one = sym one

    pub has_arrived : Legal setting ending.history → IsOver setting (run setting ending.history) → IsServedIn begins step origin given is_over work 1 ending 0 source left
    unfolding served
    has_arrived legal over = record {
      ended = record { legal = legal; over = over };
      ring = omega arith;
      by = record {
        served = served;
        stays = λ i p e.
            let its = found i p e in
            let place : 0 + i * 1 ≡ 0 = omega (arith, its.0) in
            let one : length (items_for p.key ((key, item) ∷ [])) ≡ 1 = ap (λ (k : ℕ). length (items_for k ((key, item) ∷ []))) (ap (λ (q : KeyPart S). q.key) its.1) ∙ ap length (its_items key item) in
            subst (λ (c : ℕ). WasFed setting 0 c (length (items_for p.key ((key, item) ∷ []))) ending.history) (sym place) (was_fed (length (items_for p.key ((key, item) ∷ []))) one);
      };
    }

  -- where the item's key has no part it isn't served
  pub not_lost : left.parts.items ≡ [] → IsServedIn begins step origin given is_over work 1 ending 0 source left → ⊥
  not_lost none is =
      let s = is.by.served in
      let all : s.all ≡ (key, item) ∷ [] =
      sym (append-nil s.all) ∙ (ap (λ (r : Option (Refused T)). s.all ++ refused_in r) (sym gave.refused)
      ∙ append_cancel_left (given source) (s.all ++ refused_in left.refused) ((key, item) ∷ []) (sym (append_assoc (given source) s.all (refused_in left.refused)) ∙ (sym s.its_items.gave ∙ gave.gave))) in
      let some : items_for key s.all ≢ [] = λ e. cc (sym (its_items key item) ∙ (ap (items_for key) (sym all) ∙ e)) in
      let there : Contains (keys_of left.parts.items) key = s.every key some in
      subst (λ (ps : List (KeyPart S)). Contains (keys_of ps) key → ⊥) (sym none) (λ c. absurd (omega (arith, c.1))) there

-- what was seen is the part
module _ {W T S : Type 0} (begins : W → S → Type 0) (step : W → S → T → S → Type 0) (work : W) (stream : Stream T S) (item : T) (from : S) (is : HasItsItem begins step work stream item from) where
  own : IsPartOf begins step work stream (Did.Feed 0 ∷ [])
  own = record {
    feeds = omega (arith, ap length is.items);
    made = one_step begins step work (items_of stream) item from (state_of stream) is.items is.state;
    counted = is.counted ∙ ap (λ (xs : List T). length xs % 2 ^ 64) (sym is.items);
  }

  at : (c : ℕ) → PlaceAt (λ c stream had. IsPartOf begins step work stream had) c (slice_get (Some stream ∷ []) c) (peri setting looked c)
  at zero = own
  at (suc c) = tt

  pub was_seen : Legal setting looked → SawLast begins step work (λ parts seen. seen ≡ parts) setting 1 1 ending.history (Some (Some stream ∷ []))
  was_seen legal = record {
    before = looked;
    is_beginning = (closed, refl);
    there = refl;
    no_more = refl;
    some = λ _. refl;
    looked = record { legal = legal; parts = Some stream ∷ []; stand = at; says = refl };
  }
