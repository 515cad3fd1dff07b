-- A sum modulo 2^16 - 1, word by word.
use Rattle.std.proofs.Common.{◌≡◌, ℕ, zero, suc, ◌+◌, ◌*◌, List, [], ◌∷◌, take, drop, arith}
use Rattle.std.proofs.lemmas.Bool.Decides.{nat_tests}
use Rattle.sq_base.specs.InternetSum.{word_sum, reduced}

pub reduced-reduced_add : (m n : ℕ) → reduced (reduced m + n) ≡ reduced (m + n)
reduced-reduced_add m n = grind (arith, nat_tests)

-- a sum with its bytes turned, folded behind a block, goes on with what follows
pub turned-goes_on : (s n r m : ℕ) → reduced (256 * r) ≡ reduced (256 * s + n) → reduced (256 * reduced r + m) ≡ reduced (256 * s + (n + m))
turned-goes_on s n r m block = grind (arith, nat_tests)

-- the words of an even number of bytes, and of those behind them
pub word_sum-split : (n k : ℕ) (xs : List ℕ) → n ≡ 2 * k → word_sum (take n xs) + word_sum (drop n xs) ≡ word_sum xs
word_sum-split zero k xs even = omega arith
word_sum-split (suc zero) k xs even = absurd (omega (arith, even))
word_sum-split (suc (suc n)) k [] even = omega arith
word_sum-split (suc (suc n)) k (a ∷ []) even = omega arith
word_sum-split (suc (suc n)) zero (a ∷ b ∷ rest) even = absurd (omega (arith, even))
word_sum-split (suc (suc n)) (suc k) (a ∷ b ∷ rest) even = omega (arith, word_sum-split n k rest (omega (arith, even)))
