-- The check value of a text, from those of its parts.
use Rattle.std.proofs.Common.{◌≡◌, ◌+◌, ◌*◌, ◌/◌, ◌%◌, ◌^◌, ℕ, List, [], ◌∷◌, ◌++◌, ◌-◌, ◌≤◌, length, take, drop, get_or, refl, ap, sym, ◌∙◌, arith}
use Rattle.std.proofs.Math.Nat.{add-mul-mod_self_left}
use Rattle.std.proofs.lemmas.List.{take_all}
use Rattle.std.proofs.lemmas.List.Sums.{fold-append}
use Rattle.squeue_report.specs.SummaryText.{check_behind, check_of}

pub check_none : check_of [] ≡ 0
unfolding check_of
check_none = refl

pub check_more : (before text : List ℕ) → check_of (before ++ text) ≡ check_behind (check_of before) text
unfolding check_of check_behind
check_more before text = fold-append (λ h b. (h * 1099511628211 + b) % 2 ^ 64) 0 before text

-- the same up to a multiple of 2 ^ 64
same_rest : (x y k : ℕ) → x ≡ y + 18446744073709551616 * k → x % 18446744073709551616 ≡ y % 18446744073709551616
same_rest x y k e = ap (λ n. n % 18446744073709551616) e ∙ add-mul-mod_self_left y 18446744073709551616 k

-- a rest may be taken in the end
once : (x a : ℕ) → (x % 18446744073709551616 * 1099511628211 + a) % 18446744073709551616 ≡ (x * 1099511628211 + a) % 18446744073709551616
once x a = sym (same_rest (x * 1099511628211 + a) (x % 18446744073709551616 * 1099511628211 + a) (x / 18446744073709551616 * 1099511628211) (omega arith))

twice : (x a b : ℕ) → ((x % 18446744073709551616 * 1099511628211 + a) * 1099511628211 + b) % 18446744073709551616 ≡ ((x * 1099511628211 + a) * 1099511628211 + b) % 18446744073709551616
twice x a b =
    sym (same_rest ((x * 1099511628211 + a) * 1099511628211 + b) ((x % 18446744073709551616 * 1099511628211 + a) * 1099511628211 + b)
    (x / 18446744073709551616 * 1208925820571204291060521) (omega arith))

thrice : (x a b c : ℕ) → (((x % 18446744073709551616 * 1099511628211 + a) * 1099511628211 + b) * 1099511628211 + c) % 18446744073709551616
    ≡ (((x * 1099511628211 + a) * 1099511628211 + b) * 1099511628211 + c) % 18446744073709551616
thrice x a b c =
    sym (same_rest (((x * 1099511628211 + a) * 1099511628211 + b) * 1099511628211 + c) (((x % 18446744073709551616 * 1099511628211 + a) * 1099511628211 + b) * 1099511628211 + c)
    (x / 18446744073709551616 * 1329227997362564068125063396651957931) (omega arith))

-- the powers of the multiplier in place of one byte after another
powers : (h a b c d : ℕ) → ((((h * 1099511628211 + a) * 1099511628211 + b) * 1099511628211 + c) * 1099511628211 + d) % 18446744073709551616
    ≡ (h * 11527715348014283921 + a * 624165263380053675 + b * 956575116354345 + c * 1099511628211 + d) % 18446744073709551616
powers h a b c d =
    same_rest ((((h * 1099511628211 + a) * 1099511628211 + b) * 1099511628211 + c) * 1099511628211 + d)
    (h * 11527715348014283921 + a * 624165263380053675 + b * 956575116354345 + c * 1099511628211 + d)
    (h * 79228162639644551293944856595 + a * 72057594123452416 + b * 65536) (omega arith)

-- rests of four, and of their sums
sums : (p q u v d : ℕ) → (((p % 18446744073709551616 + q % 18446744073709551616) % 18446744073709551616 + (u % 18446744073709551616 + v % 18446744073709551616) % 18446744073709551616) % 18446744073709551616 + d) % 18446744073709551616
    ≡ (p + q + u + v + d) % 18446744073709551616
sums p q u v d =
    sym (same_rest (p + q + u + v + d) (((p % 18446744073709551616 + q % 18446744073709551616) % 18446744073709551616 + (u % 18446744073709551616 + v % 18446744073709551616) % 18446744073709551616) % 18446744073709551616 + d)
    (p / 18446744073709551616 + q / 18446744073709551616 + u / 18446744073709551616 + v / 18446744073709551616 + (p % 18446744073709551616 + q % 18446744073709551616) / 18446744073709551616 + (u % 18446744073709551616 + v % 18446744073709551616) / 18446744073709551616 + ((p % 18446744073709551616 + q % 18446744073709551616) % 18446744073709551616 + (u % 18446744073709551616 + v % 18446744073709551616) % 18446744073709551616) / 18446744073709551616) (omega arith))

-- four bytes at once
pub four_more : (h a b c d : ℕ) → (((h * 11527715348014283921 % 18446744073709551616 + a * 624165263380053675 % 18446744073709551616) % 18446744073709551616
    + (b * 956575116354345 % 18446744073709551616 + c * 1099511628211 % 18446744073709551616) % 18446744073709551616) % 18446744073709551616 + d) % 18446744073709551616
    ≡ check_behind h (a ∷ b ∷ c ∷ d ∷ [])
unfolding check_behind
four_more h a b c d =
    sums (h * 11527715348014283921) (a * 624165263380053675) (b * 956575116354345) (c * 1099511628211) d ∙ sym (powers h a b c d)
    ∙ sym (once (((h * 1099511628211 + a) % 18446744073709551616 * 1099511628211 + b) % 18446744073709551616 * 1099511628211 + c) d
    ∙ twice ((h * 1099511628211 + a) % 18446744073709551616 * 1099511628211 + b) c d ∙ thrice (h * 1099511628211 + a) b c d)

-- four bytes, and what stands behind them
four_first : (h a b c d : ℕ) (rest : List ℕ) → check_behind (check_behind h (a ∷ b ∷ c ∷ d ∷ [])) rest ≡ check_behind h (a ∷ b ∷ c ∷ d ∷ rest)
unfolding check_behind
four_first h a b c d rest = refl

-- the first four bytes of a text, and the rest of it
pub four_at : (h : ℕ) (xs : List ℕ) → 4 ≤ length xs
    → check_behind (check_behind h (get_or xs 0 0 ∷ get_or xs 1 0 ∷ get_or xs 2 0 ∷ get_or xs 3 0 ∷ [])) (take (length xs - 4) (drop 4 xs)) ≡ check_behind h xs
four_at h (a ∷ b ∷ c ∷ d ∷ rest) few = ap (check_behind (check_behind h (a ∷ b ∷ c ∷ d ∷ []))) (take_all (length (a ∷ b ∷ c ∷ d ∷ rest) - 4) rest (omega arith)) ∙ four_first h a b c d rest
four_at h [] few = absurd (let no : ⊥ = omega (arith, few) in no)
four_at h (a ∷ []) few = absurd (let no : ⊥ = omega (arith, few) in no)
four_at h (a ∷ b ∷ []) few = absurd (let no : ⊥ = omega (arith, few) in no)
four_at h (a ∷ b ∷ c ∷ []) few = absurd (let no : ⊥ = omega (arith, few) in no)
