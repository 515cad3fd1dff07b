-- A flag that is written in a short list.
use Rattle.std.proofs.Common.{◌≡◌, ℕ, zero, suc, ◌<◌, Bool, List, [], ◌∷◌, length, take, slice_set, refl, ap, arith}

pub take-set : (n : ℕ) (xs : List Bool) (i : ℕ) (b : Bool) → i < length (take n xs) → take n (slice_set xs i b) ≡ slice_set (take n xs) i b
take-set zero xs i b lt = absurd (omega arith)
take-set (suc n) [] i b lt = refl
take-set (suc n) (x ∷ xs) zero b lt = refl
take-set (suc n) (x ∷ xs) (suc i) b lt = ap (λ ys. x ∷ ys) (take-set n xs i b (omega arith))
