-- A worker's one pass.
use Rattle.std.proofs.Common.{◌≡◌, ℕ, zero, suc, Option, Some, None, List, [], ◌∷◌, slice_get, slice_index_or, slice_set, ap, ◌∙◌, subst}
use Rattle.turn_gate.specs.declared.pass.Pass.{Pass}
use Rattle.perimeter_core.specs.History.{Element, Limits}
use Rattle.squeue_state.specs.Naming.{Named}
use Rattle.squeue_serve.specs.Places.{Became, HasWorked, MayWork}

pub got_or : {A : Type 0} (xs : List A) (k : ℕ) (x d : A) → slice_get xs k ≡ Some x → slice_index_or xs k d ≡ x
got_or [] k x d is = cc is
got_or (y ∷ xs) zero x d is = cc is
got_or (y ∷ xs) (suc k) x d is = got_or xs k x d is

module _ {R : Type 0} (limits : R → Limits) (ss : List (Named R)) (q : ℕ) where
  -- what a worker's task needs of its places, and what it leaves
  abbrev May : List (Option (Pass Element)) → Type 0
  May places = (s : Named R) × (x : Pass Element) × (slice_get ss q ≡ Some s) × (places ≡ Some x ∷ []) × MayWork limits s x

  abbrev Done : List (Option (Pass Element)) → List (Option (Pass Element)) → Type 0
  Done old new = (s : Named R) × (x : Pass Element) × (y : Pass Element) × (slice_get ss q ≡ Some s) × (old ≡ Some x ∷ []) × (new ≡ Some y ∷ []) × HasWorked limits s x y

  pub worked : (t : Named R) (places : List (Option (Pass Element))) (old new : Option (Pass Element)) → May places → t ≡ slice_index_or ss q t → old ≡ slice_index_or places 0 old → Became (HasWorked limits t) old new → Done places (slice_set places 0 new)
  worked t places old new may is at became = by new (subst (λ (o : Option (Pass Element)). Became (HasWorked limits t) o new) same became)
    where
      it : t ≡ may.0
      it = is ∙ got_or ss q may.0 t may.2

      same : old ≡ Some may.1
      same = at ∙ ap (λ (os : List (Option (Pass Element))). slice_index_or os 0 old) may.3

      by : (n : Option (Pass Element)) → Became (HasWorked limits t) (Some may.1) n → Done places (slice_set places 0 n)
      by None b = absurd b
      by (Some y) b = (may.0, may.1, y, may.2, may.3, ap (λ (os : List (Option (Pass Element))). slice_set os 0 (Some y)) may.3, subst (λ (s : Named R). HasWorked limits s may.1 y) it b)
