-- Powers of ten, and what is left of a number over one.
use Rattle.std.proofs.Common.{◌≡◌, ℕ, zero, suc, ◌+◌, ◌-◌, ◌*◌, ◌/◌, ◌^◌, ◌<◌, ◌≤◌, sym, ap, ◌∙◌, subst, arith}
use Rattle.std.proofs.Math.Nat.{pow-suc, div-eq_of_lt}

pub ten_next : (i : ℕ) → 10 ^ (i + 1) ≡ 10 ^ i * 10
ten_next i = let s : i + 1 ≡ suc i = omega arith in ap (λ (k : ℕ). 10 ^ k) s ∙ pow-suc 10 i

pub ten_up : (i : ℕ) → 10 ^ i ≤ 10 ^ (i + 1)
ten_up i = let e : 10 ^ (i + 1) ≡ 10 ^ i * 10 = ten_next i in omega arith

-- a power of ten is at most a later one
pub ten_rises : (i k : ℕ) → 10 ^ i ≤ 10 ^ (i + k)
ten_rises i zero = let e : i + 0 ≡ i = omega arith in rw e (omega arith)
ten_rises i (suc k) =
    let e : i + suc k ≡ i + k + 1 = omega arith in
    let up : 10 ^ (i + k) ≤ 10 ^ (i + k + 1) = ten_up (i + k) in
    let so_far : 10 ^ i ≤ 10 ^ (i + k) = ten_rises i k in
    rw e (omega arith)

pub ten_most : (i n : ℕ) → i ≤ n → 10 ^ i ≤ 10 ^ n
ten_most i n h = let e : i + (n - i) ≡ n = omega arith in subst (λ (m : ℕ). 10 ^ i ≤ 10 ^ m) e (ten_rises i (n - i))

pub none_left : (n v : ℕ) → n < 10 ^ 26 → 26 ≤ v → 0 ≡ n / 10 ^ v
none_left n v few far = let most : 10 ^ 26 ≤ 10 ^ v = ten_most 26 v far in sym (div-eq_of_lt (omega arith))

pub ten_some : (v : ℕ) → 0 < 10 ^ v
ten_some v = let least : 10 ^ 0 ≤ 10 ^ v = ten_most 0 v (omega arith) in omega arith
