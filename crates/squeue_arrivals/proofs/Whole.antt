-- A source whose ring is done is served.
use Rattle.std.proofs.Common.{◌≡◌, ℕ, ◌+◌, ◌*◌, ◌<◌, Some, List, [], ◌∷◌, length, slice_get, refl, ap, sym, ◌∙◌, subst, arith}
use Rattle.std.specs.Prelude.{Contains, nat_eq, option_map}
use Rattle.std.specs.List.{IsDistinct}
use Rattle.std.proofs.lemmas.List.{length-map}
use Rattle.std.proofs.lemmas.Option.{slice_get-map}
use Rattle.turn_gate.specs.History.{Begins, only}
use Rattle.turn_gate.specs.Passes.{number, seen}
use Rattle.turn_gate.specs.declared.pass.Pass.{Pass}
use Rattle.perimeter_core.specs.Deeds.{times_left}
use Rattle.perimeter_core.specs.History.{Element, Limits, Setting}
use Rattle.histories.specs.Elements.{closed_by, number_of}
use Rattle.histories.specs.Endings.{Ending, HasEnded}
use Rattle.histories.proofs.Counts.{left_append}
use Rattle.squeue_state.specs.Clauses.{Added}
use Rattle.squeue_state.specs.Naming.{Named, setting_of}
use Rattle.squeue_streams.specs.Taking.{state_of}
use Rattle.stream_stays.specs.declared.place.Place.TheVariants.{Vacant as Vacant'}
use Rattle.stream_stays.specs.declared.place.Stays.{Stays}
use Rattle.stream_stays.specs.declared.stay.Vacant.{Vacant}
use Rattle.stream_stays.specs.Places.{place_at}
use Rattle.squeue_arrivals.specs.Arriving.{HasGiven, IsMadeOf, IsServed, IsServedAt, IsServedIn, items_for, keys_of}
use Rattle.squeue_arrivals.specs.Keyed.{AreBegun, Tells, work_of}
use Rattle.squeue_arrivals.specs.Keeping.{AllCame, AreClosed, IsTable}
use Rattle.squeue_arrivals.specs.Placed.{keys_in, most_in, place_of}
use Rattle.squeue_arrivals.specs.Stayed.{WasFed}
use Rattle.squeue_arrivals.specs.declared.ring_keys.RingKeys.{RingKeys}
use Rattle.squeue_arrivals.specs.declared.served.KeyPart.{KeyPart}
use Rattle.squeue_arrivals.specs.declared.served.ServedSource.{ServedSource}
use Rattle.squeue_arrivals.specs.declared.steps.Keyed.{Keyed}
use Rattle.squeue_arrivals.proofs.Closing.{made_of}
use Rattle.squeue_arrivals.proofs.StaysKept.{fed_on, fed_others}

module _ {R W T S A O : Type 0} (begins : W → S → Type 0) (step : W → S → T → S → Type 0) (origin : A → O) (given : A → List (ℕ × T)) (is_over : A → Type 0) (limits : R → Limits) (s : Named R)
    (o : Keyed W T S) (most : ℕ) where
  abbrev pub is_served : (all : List (ℕ × T)) (p : Pass Element) (st : Stays T S) (k : RingKeys) (source : A) (left : ServedSource A T S) → AreBegun begins o → IsTable all k → AllCame all k
      → AreClosed (Tells step) limits s o all p st k → keys_of left.parts.items ≡ keys_in k
      → ((i : ℕ) (part : KeyPart S) → slice_get left.parts.items i ≡ Some part → (v : Vacant T S) × (place_at st (place_of k i) ≡ Some (Vacant' v)) × (part.state ≡ state_of v.part))
      → HasGiven origin given is_over most (length (keys_in k)) all source left.source left.refused → most_in k ≡ most → IsServed begins step origin given is_over (work_of o) most source left
  is_served all p st k source left begun table came closed keys states gave is_most =
      let many : length (keys_in k) ≡ length left.parts.items = sym (ap length keys) ∙ length-map left.parts.items (λ p. p.key) in
      record {
        all = all;
        its_items = subst (λ (n : ℕ). HasGiven origin given is_over most n all source left.source left.refused) many gave;
        few = omega (arith, table.few, is_most, many);
        distinct = subst (IsDistinct nat_eq) (sym keys) table.distinct;
        each = λ i part at.
            let key : slice_get (keys_in k) i ≡ Some part.key = ap (λ (l : List ℕ). slice_get l i) (sym keys) ∙ (slice_get-map (λ p. p.key) left.parts.items i ∙ ap (λ x. option_map (λ p. p.key) x) at) in
            let h = states i part at in (
              came i part.key key,
              subst (IsMadeOf begins step (work_of o) (items_for part.key all)) (sym h.2) (made_of begins step limits s o all p st k i part.key h.0 begun closed key h.1),
            );
        every = λ key some. subst (λ (l : List ℕ). Contains l key) (sym keys) (table.every key some);
      }

  -- and so it is by the history that its pass has seen, when that was closed
  pub is_served_at : (all : List (ℕ × T)) (p q : Pass Element) (st : Stays T S) (k : RingKeys) (source : A) (left : ServedSource A T S) → AreBegun begins o → IsTable all k → AllCame all k
      → AreClosed (Tells step) limits s o all p st k → keys_of left.parts.items ≡ keys_in k
      → ((i : ℕ) (part : KeyPart S) → slice_get left.parts.items i ≡ Some part → (v : Vacant T S) × (place_at st (place_of k i) ≡ Some (Vacant' v)) × (part.state ≡ state_of v.part))
      → HasGiven origin given is_over most (length (keys_in k)) all source left.source left.refused → most_in k ≡ most → left.pass.value ≡ q → Added limits s p (closed_by (number p)) q → k.number ≡ number p
      → k.rings ≡ s.given.rings → IsServedAt begins step origin given is_over (work_of o) most (setting_of limits s.given) source left
  is_served_at all p q st k source left begun table came closed keys states gave is_most last added number_is rings_are =
      record {
        served = is_served all p st k source left begun table came closed keys states gave is_most;
        stays = λ i part at.
            let key : slice_get (keys_in k) i ≡ Some part.key = ap (λ (l : List ℕ). slice_get l i) (sym keys) ∙ (slice_get-map (λ p. p.key) left.parts.items i ∙ ap (λ x. option_map (λ p. p.key) x) at) in
            let S = setting_of limits s.given in
            let n = length (items_for part.key all) in
            let c = place_of k i in
            let found = added.found in
            let before = fed_others S (number p) c n (seen p) found added.goes_on (added.own ∙ sym closed.knows.life.pass.2) (closed.at i part.key key).2 in
            let none : times_left c (closed_by (number p) ∷ []) ≡ 0 = refl in
            let split = ap (times_left c) added.now_seen ∙ left_append c found (closed_by (number p) ∷ []) in
            let mine = fed_on S (number p) (number q) c n n found (seen q) (closed_by (number p) ∷ [], added.now_seen) added.same_number refl (omega (arith, split, none)) before in
            let place : place_of k i ≡ number q + i * s.given.rings =
            ap (λ (m : ℕ). m + i * k.rings) (number_is ∙ sym added.same_number) ∙ ap (λ (m : ℕ). number q + i * m) rings_are in
            let there = subst (λ (c : ℕ). WasFed S (number q) c n (seen q)) place mine in
            subst (λ (x : Pass Element). WasFed S (number x) (number x + i * s.given.rings) n (seen x)) (sym last) there;
      }

-- what is so of what a ring's pass has seen is so of the history at its squeue's end
module _ {W T S A O : Type 0} (begins : W → S → Type 0) (step : W → S → T → S → Type 0) (origin : A → O) (given : A → List (ℕ × T)) (is_over : A → Type 0) (work : W) (most : ℕ) where
  pub served_in : (at : Setting) (end : Ending) (k : ℕ) (source : A) (left : ServedSource A T S) → HasEnded end → end.setting ≡ at → k < end.setting.rings → number left.pass.value ≡ k → Begins (seen left.pass.value) end.history → only number_of k end.history ≡ only number_of k (seen left.pass.value)
      → IsServedAt begins step origin given is_over work most at source left → IsServedIn begins step origin given is_over work most end k source left
  served_in at end k source left ended setting ring number_is grows own h =
      record {
        ended = ended;
        ring = ring;
        by = record {
          served = h.served;
          stays = λ i part got.
              let n = length (items_for part.key h.served.all) in
              let p = number left.pass.value in
              let same = subst (λ (m : ℕ). only number_of m end.history ≡ only number_of m (seen left.pass.value)) (sym number_is) own in
              let now = fed_others at p (p + i * at.rings) n (seen left.pass.value) end.history grows same (h.stays i part got) in
              let mine = subst (λ (m : ℕ). WasFed at m (m + i * at.rings) n end.history) number_is now in
              subst (λ (S : Setting). WasFed S k (k + i * S.rings) n end.history) (sym setting) mine;
        };
      }
