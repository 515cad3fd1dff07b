-- All passes of a ring keep its pace, from piece to piece.
use Rattle.std.proofs.Common.{◌≡◌, ◌≢◌, ℕ, ◌≤◌, inl, inr, Option, Some, None, List, [], ◌∷◌, length, slice_get, take, refl, ap, sym, ◌∙◌, subst}
use Rattle.std.proofs.lemmas.Bool.{cases_eq}
use Rattle.turn_gate.specs.History.{Each}
use Rattle.turn_gate.specs.Passes.{number, seen}
use Rattle.turn_gate.specs.declared.pass.Pass.{Pass}
use Rattle.perimeter_core.specs.declared.entries.Feed.{Feed as FeedOf}
use Rattle.perimeter_core.specs.declared.marks.SynchAct.TheVariants as Done
use Rattle.perimeter_core.specs.History.{Element, Limits}
use Rattle.perimeter_core.specs.Deeds.{acts}
use Rattle.squeue_state.specs.Naming.{Named, setting_of}
use Rattle.histories.specs.declared.mode.Mode.{Mode}
use Rattle.squeue_serve.specs.Places.{AtEach, AtEachTwo, Became, HasClosed, Holds, IsNew}
use Rattle.squeue_rings.specs.Bringing.{AreAt, HasBrought, HasMoved}
use Rattle.squeue_rings.specs.Paced.{ArePaced, IsPaced}
use Rattle.squeue_rings.specs.Rings.{RingAt}
use Rattle.histories.specs.Runs.{home_before, home_of, run_of}
use Rattle.squeue_rings.proofs.Counting.{each_as}
use Rattle.squeue_rings.proofs.PacedPasses.{close_paced, entry_paced, move_paced}
use Rattle.squeue_rings.proofs.Reaching.{held, hold}
use Rattle.squeue_rings.proofs.Running.{run_stays}
use Rattle.squeue_rings.proofs.Slots.{at_got, at_length, at_made}

module _ {R : Type 0} (limits : R → Limits) (squeues spread : ℕ) (mode : Mode) (budget r : ℕ) (ss : List (Named R)) where
  -- of the pass of a squeue
  abbrev Paced : Named R → Pass Element → Type 0
  Paced s x = IsPaced squeues spread mode budget s.given.number (setting_of limits s.given) r (seen x)

  abbrev InPlace : Named R → Option (Pass Element) → Type 0
  InPlace s o = Holds (λ x. IsPaced squeues spread mode budget s.given.number (setting_of limits s.given) r (seen x)) o

  its_number : (s : Named R) (H : List Element) (p : ℕ) → p ≡ r → IsPaced squeues spread mode budget s.given.number (setting_of limits s.given) r H → IsPaced squeues spread mode budget s.given.number (setting_of limits s.given) p H
  its_number s H p same is = subst (λ (p : ℕ). IsPaced squeues spread mode budget s.given.number (setting_of limits s.given) p H) (sym same) is

  -- new passes have seen nothing
  pub new_paced : (places : List (Option (Pass Element))) → AtEach (λ s o. Holds (IsNew r s) o) ss places → ArePaced limits squeues spread mode budget r ss places
  new_paced places new =
      at_made InPlace ss places (at_length (λ s o. Holds (IsNew r s) o) ss places new)
      (λ k s o is it.
      let x = held (IsNew r s) o (at_got (λ s o. Holds (IsNew r s) o) ss places k s o new is it) in
      hold (Paced s) x.0 o x.1 (subst (λ (H : List Element). IsPaced squeues spread mode budget s.given.number (setting_of limits s.given) r H) (sym x.2.none_seen) (record { keeps = tt; exact = tt; not_taken = refl })))

  module _ (entered reached : List FeedOf) (old new : List (Option (Pass Element))) (at : AreAt limits squeues spread r ss entered reached old) (paced : ArePaced limits squeues spread mode budget r ss old) where
    abbrev At : Named R → Option (Pass Element) → Type 0
    At s o = Holds (RingAt limits squeues spread r entered reached s) o

    -- what stood in a place
    known : (k : ℕ) (s : Named R) (x : Pass Element) → slice_get ss k ≡ Some s → slice_get old k ≡ Some (Some x) → RingAt limits squeues spread r entered reached s x
    known k s x is it = at_got At ss old k s (Some x) at.each is it

    was : (k : ℕ) (s : Named R) (x : Pass Element) → slice_get ss k ≡ Some s → slice_get old k ≡ Some (Some x) → Paced s x
    was k s x is it = at_got InPlace ss old k s (Some x) paced is it

    -- where the pass of squeue s alone has become y
    one_paced : (q : ℕ) (s : Named R) (y : Pass Element) → slice_get ss q ≡ Some s → slice_get new q ≡ Some (Some y) → length new ≡ length old → ((k : ℕ) → k ≢ q → slice_get new k ≡ slice_get old k) → Paced s y → ArePaced limits squeues spread mode budget r ss new
    one_paced q s y here now count others is_so =
        at_made InPlace ss new (count ∙ at_length InPlace ss old paced)
        (λ k t o is it.
        elim (cases_eq k q) [
          | inl e ↦
              let a : t ≡ s = (let d : Some t ≡ Some s = sym is ∙ (ap (slice_get ss) e ∙ here) in cc d) in
              let b : o ≡ Some y = (let d : Some o ≡ Some (Some y) = sym it ∙ (ap (slice_get new) e ∙ now) in cc d) in
              hold (Paced t) y o b (subst (λ (t : Named R). Paced t y) (sym a) is_so)
          | inr away ↦ at_got InPlace ss old k t o paced is (sym (others k away) ∙ it)
        ])

    -- feeds at home at squeue q were entered there
    pub entered_paced : 1 ≤ budget → (q : ℕ) (s : Named R) (o n : Option (Pass Element)) (es : List FeedOf) → s.given.number ≡ q → Each (λ f. home_of squeues spread f ≡ q) es → slice_get ss q ≡ Some s → slice_get old q ≡ Some o → slice_get new q ≡ Some n
        → Became (λ x y. HasBrought limits s mode budget es x y) o n → length new ≡ length old → ((k : ℕ) → k ≢ q → slice_get new k ≡ slice_get old k) → ArePaced limits squeues spread mode budget r ss new
    entered_paced some q s None n es is_number home here it now ran count others = absurd ran
    entered_paced some q s (Some x) None es is_number home here it now ran count others = absurd ran
    entered_paced some q s (Some x) (Some y) es is_number home here it now ran count others =
        let k = known q s x here it in
        let p = entry_paced limits s squeues spread mode budget es x ran.answer k.pass some (subst (λ (q : ℕ). Each (λ f. home_of squeues spread f ≡ q) es) (sym is_number) home) ran.entered (its_number s (seen x) (number x) k.is_number (was q s x here it)) in
        one_paced q s y here now count others (subst (λ (y : Pass Element). Paced s y) (sym ran.its_pass) (subst (λ (p : ℕ). IsPaced squeues spread mode budget s.given.number (setting_of limits s.given) p (seen ran.answer.pass)) k.is_number p))

    -- a run was entered at its home
    pub run_paced : 1 ≤ budget → (s : Named R) (o n : Option (Pass Element)) (f : FeedOf) (tail es : List FeedOf) → s.given.number ≡ home_of squeues spread f → es ≡ f ∷ take (run_of squeues spread (home_of squeues spread f) tail) tail
        → slice_get ss (home_of squeues spread f) ≡ Some s → slice_get old (home_of squeues spread f) ≡ Some o → slice_get new (home_of squeues spread f) ≡ Some n → Became (λ x y. HasBrought limits s mode budget es x y) o n
        → length new ≡ length old → ((k : ℕ) → k ≢ home_of squeues spread f → slice_get new k ≡ slice_get old k) → ArePaced limits squeues spread mode budget r ss new
    run_paced some s o n f tail es is_number is =
        let q = home_of squeues spread f in
        entered_paced some q s o n es is_number
        (subst (Each (λ (g : FeedOf). home_of squeues spread g ≡ q)) (sym is) (refl, each_as (take (run_of squeues spread q tail) tail) (λ g t. t.0) (run_stays squeues spread q tail)))

    -- a connection was moved
    pub moved_paced : (f : FeedOf) → HasMoved limits squeues spread f ss old new → ArePaced limits squeues spread mode budget r ss new
    moved_paced f h =
        at_made InPlace ss new (h.count ∙ at_length InPlace ss old paced)
        (λ k t o is it.
        elim (cases_eq k (home_before squeues spread f)) [
          | inl e ↦
              let a : t ≡ h.a = (let d : Some t ≡ Some h.a = sym is ∙ (ap (slice_get ss) e ∙ h.from) in cc d) in
              let b : o ≡ Some h.qa = (let d : Some o ≡ Some (Some h.qa) = sym it ∙ (ap (slice_get new) e ∙ h.now_from) in cc d) in
              hold (Paced t) h.qa o b (subst (λ (t : Named R). Paced t h.qa) (sym a) left)
          | inr u ↦ elim (cases_eq k (home_of squeues spread f)) [
            | inl e ↦
                let a : t ≡ h.b = (let d : Some t ≡ Some h.b = sym is ∙ (ap (slice_get ss) e ∙ h.to) in cc d) in
                let b : o ≡ Some h.qb = (let d : Some o ≡ Some (Some h.qb) = sym it ∙ (ap (slice_get new) e ∙ h.now_to) in cc d) in
                hold (Paced t) h.qb o b (subst (λ (t : Named R). Paced t h.qb) (sym a) come)
            | inr v ↦ at_got InPlace ss old k t o paced is (sym (h.others k u v) ∙ it)
          ]
        ])
      where
        left : Paced h.a h.qa
        left =
            let k = known (home_before squeues spread f) h.a h.pa h.from h.was_from in
            let p = move_paced limits h.a squeues spread mode budget (Done.Out f.c) [] (λ p. refl) h.pa h.qa k.pass h.out (its_number h.a (seen h.pa) (number h.pa) k.is_number (was (home_before squeues spread f) h.a h.pa h.from h.was_from)) in
            subst (λ (p : ℕ). IsPaced squeues spread mode budget h.a.given.number (setting_of limits h.a.given) p (seen h.qa)) k.is_number p

        come : Paced h.b h.qb
        come =
            let k = known (home_of squeues spread f) h.b h.pb h.to h.was_to in
            let p = move_paced limits h.b squeues spread mode budget (Done.In f.c) (acts (setting_of limits h.a.given) (seen h.qa) f.c) (λ p. refl) h.pb h.qb k.pass h.put (its_number h.b (seen h.pb) (number h.pb) k.is_number (was (home_of squeues spread f) h.b h.pb h.to h.was_to)) in
            subst (λ (p : ℕ). IsPaced squeues spread mode budget h.b.given.number (setting_of limits h.b.given) p (seen h.qb)) k.is_number p

  -- each pass was closed
  pub closed_paced : (entered reached : List FeedOf) (old new : List (Option (Pass Element))) → AreAt limits squeues spread r ss entered reached old → AtEachTwo (λ s o n. Became (HasClosed limits s) o n) ss old new → ArePaced limits squeues spread mode budget r ss old
      → ArePaced limits squeues spread mode budget r ss new
  closed_paced entered reached old new at closed paced = each ss old new at.each closed paced
    where
      each : (ss : List (Named R)) (old new : List (Option (Pass Element))) → AtEach (λ s o. Holds (RingAt limits squeues spread r entered reached s) o) ss old → AtEachTwo (λ s o n. Became (HasClosed limits s) o n) ss old new → AtEach InPlace ss old
          → AtEach InPlace ss new
      each [] [] [] at closed paced = tt
      each [] [] (n ∷ ns) at closed paced = absurd closed
      each [] (o ∷ os) ns at closed paced = absurd at
      each (s ∷ ss) [] ns at closed paced = absurd at
      each (s ∷ ss) (o ∷ os) [] at closed paced = absurd closed
      each (s ∷ ss) (o ∷ os) (n ∷ ns) at closed paced = (one s o n at.0 closed.0 paced.0, each ss os ns at.1 closed.1 paced.1)
        where
          one : (s : Named R) (o n : Option (Pass Element)) → Holds (RingAt limits squeues spread r entered reached s) o → Became (HasClosed limits s) o n → InPlace s o → InPlace s n
          one s None n at closed paced = absurd at
          one s (Some x) None at closed paced = absurd closed
          one s (Some x) (Some y) at closed paced =
              let p = close_paced limits s squeues spread mode budget x y at.pass closed (its_number s (seen x) (number x) at.is_number paced) in
              subst (λ (p : ℕ). IsPaced squeues spread mode budget s.given.number (setting_of limits s.given) p (seen y)) at.is_number p
