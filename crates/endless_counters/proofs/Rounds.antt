-- Amounts of rounds, one after another.
use Rattle.std.proofs.Common.{◌≡◌, ℕ, zero, suc, ◌+◌, ◌%◌, ◌<◌, inl, inr, Some, List, [], ◌∷◌, ◌++◌, length, slice_get, refl, ap, sym, ◌∙◌, arith, length-append}
use Rattle.std.proofs.lemmas.Bool.{cases_eq}
use Rattle.endless_counters.specs.Rounds.{AreRounds}

module _ {A : Type 0} where
  front : (xs : List A) (x : A) (i : ℕ) → i < length xs → slice_get (xs ++ x ∷ []) i ≡ slice_get xs i
  front [] x i lt = absurd (omega (arith, lt))
  front (y ∷ xs) x zero lt = refl
  front (y ∷ xs) x (suc i) lt = front xs x i (omega (arith, lt))

  last : (xs : List A) (x : A) (i : ℕ) → i ≡ length xs → slice_get (xs ++ x ∷ []) i ≡ Some x
  last [] x i is = ap (λ (n : ℕ). slice_get (x ∷ []) n) is
  last (y ∷ xs) x zero is = absurd (omega (arith, is))
  last (y ∷ xs) x (suc i) is = last xs x i (omega (arith, is))

pub none_yet : AreRounds 0 []
none_yet = record { count = refl; each = λ i lt. absurd (omega (arith, lt)) }

-- one amount more
pub one_more : (k : ℕ) (given : List (ℕ × ℕ)) (x : ℕ) → x ≡ k % 1000 → AreRounds k given → AreRounds (k + 1) (given ++ (0, x) ∷ [])
one_more k given x is are =
    record {
      count = omega (arith, length-append given ((0, x) ∷ []), are.count);
      each = λ i lt. elim (cases_eq i k) [
        | inl e ↦ last given (0, x) i (omega (arith, e, are.count)) ∙ ap (λ (n : ℕ). Some (0, n)) (is ∙ ap (λ (n : ℕ). n % 1000) (sym e))
        | inr n ↦ front given (0, x) i (omega (arith, lt, n, are.count)) ∙ are.each i (omega (arith, lt, n))
      ];
    }
