-- What holds of one stream of a plan.
use Rattle.std.proofs.Common.{◌≡◌, ℕ, ◌≤◌, List, [], ◌∷◌, suc, zero, sum_by, Some, slice_get, subst, arith}
use Rattle.std.specs.List.{AllByRecursion}
use Rattle.std.proofs.lemmas.List.Sums.{sum_by-cons}

pub part_of_sum : {X : Type 0} (f : X → ℕ) (xs : List X) (i : ℕ) (x : X) → slice_get xs i ≡ Some x → f x ≤ sum_by f xs
part_of_sum f [] i x e = absurd (let no : ⊥ = cc in no)
part_of_sum f (y ∷ ys) zero x e = let same : y ≡ x = cc in subst (λ z. f z ≤ sum_by f (y ∷ ys)) same (omega (arith, sum_by-cons f y ys))
part_of_sum f (y ∷ ys) (suc i) x e = omega (arith, sum_by-cons f y ys, part_of_sum f ys i x e)

pub one_of_all : {X : Type 0} (P : X → Type 0) (xs : List X) (i : ℕ) (x : X) → AllByRecursion P xs → slice_get xs i ≡ Some x → P x
one_of_all P [] i x h e = absurd (let no : ⊥ = cc in no)
one_of_all P (y ∷ ys) zero x h e = let same : y ≡ x = cc in subst P same h.0
one_of_all P (y ∷ ys) (suc i) x h e = one_of_all P ys i x h.1 e
