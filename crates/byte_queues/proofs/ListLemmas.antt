-- Parts of a list, with ends that reach past it.
use Rattle.std.proofs.Common.{◌≡◌, ℕ, ◌-◌, List, [], ◌∷◌, length, take, drop, min, ap, ◌∙◌, arith}
use Rattle.std.specs.Prelude.{suc, zero}
use Rattle.byte_queues.specs.Runs.{part}

pub take_clamped : (n : ℕ) (xs : List ℕ) → take (min n (length xs)) xs ≡ take n xs
take_clamped zero xs = let e : min zero (length xs) ≡ zero = omega arith in ap (λ (k : ℕ). take k xs) e
take_clamped (suc n) [] = let e : min (suc n) zero ≡ zero = omega arith in ap (λ (k : ℕ). take k []) e
take_clamped (suc n) (x ∷ xs) = let e : min (suc n) (length (x ∷ xs)) ≡ suc (min n (length xs)) = omega arith in ap (λ (k : ℕ). take k (x ∷ xs)) e ∙ ap (λ (ys : List ℕ). x ∷ ys) (take_clamped n xs)

pub drop_clamped : (n : ℕ) (xs : List ℕ) → drop (min n (length xs)) xs ≡ drop n xs
drop_clamped zero xs = let e : min zero (length xs) ≡ zero = omega arith in ap (λ (k : ℕ). drop k xs) e
drop_clamped (suc n) [] = let e : min (suc n) zero ≡ zero = omega arith in ap (λ (k : ℕ). drop k []) e
drop_clamped (suc n) (x ∷ xs) = let e : min (suc n) (length (x ∷ xs)) ≡ suc (min n (length xs)) = omega arith in ap (λ (k : ℕ). drop k (x ∷ xs)) e ∙ drop_clamped n xs

pub part_clamped : (at : ℕ) (text : List ℕ) (from to : ℕ) → let b = take (min (to - at) (length text)) text in drop (min (from - at) (length b)) b ≡ part at text from to
part_clamped at text from to =
    drop_clamped (from - at) (take (min (to - at) (length text)) text) ∙ ap (drop (from - at)) (take_clamped (to - at) text)
