-- What jobs are lent of squeues that are made one after another.
use Rattle.std.proofs.Common.{◌≡◌, ℕ, ◌+◌, ◌<◌, ◌≤◌, zero, suc, Option, Some, List, [], ◌∷◌, ◌++◌, All, length, slice_get, ap, sym, ◌∙◌, subst, arith, inl, inr}
use Rattle.std.proofs.lemmas.Bool.{cases_eq}
use Rattle.atomic_table.specs.Seated.{TableId}
use Rattle.turn_gate.specs.Passes.{AreFresh, IsPassOf, mine, number, seen}
use Rattle.turn_gate.specs.declared.pass.Pass.{Pass}
use Rattle.perimeter_core.specs.History.{Element}
use Rattle.squeue_state.specs.Naming.{Named}
use Rattle.histories.specs.Elements.{number_of}
use Rattle.squeue_serve.specs.declared.jobs.Job.{Job}
use Rattle.squeue_serve.specs.Places.{AtEach, Holds, IsNew}
use Rattle.squeue_serve.specs.Lending.{AreHanded, AreLent, holder, lent_to}
use Rattle.squeue_serve.proofs.Coming.{holds_last, holds_other, more_lent}
use Rattle.squeue_serve.proofs.Lent.{lent_none}
use Rattle.squeue_rings.proofs.Slots.{at_length}

fresh_at : (num : Element → ℕ) (id : TableId) (k : ℕ) (ps : List (Pass Element)) (i : ℕ) (x : Pass Element) → AreFresh num id k ps → slice_get ps i ≡ Some x → IsPassOf num id x × (number x ≡ k + i) × (seen x ≡ []) × (mine x ≡ [])
fresh_at num id k [] i x h is = cc is
fresh_at num id k (p ∷ ps) zero x h is =
    let same : p ≡ x = cc is in
    let n : number p ≡ k + 0 = omega (arith, h.0.1) in
    subst (λ (x : Pass Element). IsPassOf num id x × (number x ≡ k + 0) × (seen x ≡ []) × (mine x ≡ [])) same (h.0.0, n, h.0.2, h.0.3)
fresh_at num id k (p ∷ ps) (suc i) x h is =
    let r = fresh_at num id (k + 1) ps i x h.1 is in
    let n : number x ≡ k + suc i = omega (arith, r.1) in
    (r.0, n, r.2, r.3)

module _ {R : Type 0} (front count : ℕ) where
  -- before the first squeue is made
  pub none_yet : {T : Type 0} (jobs : List (Job T)) → All (λ j. j.places.items ≡ []) jobs → AreLent {R = R} IsNew front count [] (lent_to jobs)
  none_yet jobs empty =
      let none = lent_none jobs empty in
      record {
        counts = tt;
        others = λ p lt. subst (AtEach {R = R} (λ s o. Holds (IsNew p s) o) []) (sym (none (front + p))) tt;
        workers = λ q s is. cc is;
        first_none = λ i lt. none i;
        last_none = λ i le. none i;
      }

  -- and with one more
  pub one_more : (ss : List (Named R)) (s : Named R) (passes : List (Pass Element)) (without having : ℕ → List (Option (Pass Element))) → AreHanded front count (length ss) passes without having → AreLent IsNew front count ss without
      → length s.given.quotas ≡ count → AreFresh number_of s.gate 0 passes → AreLent IsNew front count (ss ++ s ∷ []) having
  one_more ss s passes without having handed lent counted fresh =
      more_lent IsNew front count ss s passes without having handed lent counted
      (λ p x is. let f = fresh_at number_of s.gate 0 passes p x fresh is in record { pass = f.0; is_number = omega (arith, f.1); none_seen = f.2; none_made = f.3 })

  -- those who hold passes have as many as there are squeues
  pub fits : (ss : List (Named R)) (lent : ℕ → List (Option (Pass Element))) → AreLent IsNew front count ss lent → (p : ℕ) → p ≤ count → length (lent (holder front count (length ss) p)) ≤ length ss
  fits ss lent h p le =
      elim (cases_eq p count) [
        | inl e ↦
            let none : lent (holder front count (length ss) p) ≡ [] = ap (λ (n : ℕ). lent (holder front count (length ss) n)) e ∙ (ap lent (holds_last front count (length ss)) ∙ h.last_none (front + count + length ss) (omega arith)) in
            let z = ap length none in
            omega (arith, z)
        | inr n ↦
            let lt : p < count = omega (arith, le, n) in
            let e = ap (λ (i : ℕ). length (lent i)) (holds_other front count (length ss) p lt) in
            let c = at_length (λ s o. Holds (IsNew p s) o) ss (lent (front + p)) (h.others p lt) in
            omega (arith, e, c)
      ]

pub no_squeues : {R : Type 0} (P : ℕ → Named R → Type 0) (ss : List (Named R)) → ss ≡ [] → (k : ℕ) (s : Named R) → slice_get ss k ≡ Some s → P k s
no_squeues {R = R} P ss none k s is = cc (subst (λ (l : List (Named R)). slice_get l k ≡ Some s) none is)
