-- The retransmission timeout: how often it is doubled, and what is left of a block whose timer is started.
use Rattle.std.proofs.Common.{◌≡◌, ℕ, ◌*◌, ◌%◌, ◌^◌, ◌≤◌, ◌<◌, ◌⊎◌, inl, inr, min, sym, ap, subst, ◌∙◌, arith}
use Rattle.std.proofs.Math.Pow.{pow_mono}
use Rattle.std.proofs.Math.Nat.{mul-le-mul_right, mul_comm}
use Rattle.std.proofs.lemmas.Bool.{cases_lt}

-- doubled six times, a second is longer than 60 s
pub doubled_enough : (k n : ℕ) → 1000000 ≤ n → min (n * 2 ^ min k 6) 60000000 ≡ min 60000000 (2 ^ k * n)
doubled_enough k n h = by (cases_lt k 6)
  where
    by : (k < 6) ⊎ (6 ≤ k) → min (n * 2 ^ min k 6) 60000000 ≡ min 60000000 (2 ^ k * n)
    by (inl few) =
        let e : min k 6 ≡ k = omega (arith, few) in
        let c : n * 2 ^ k ≡ 2 ^ k * n = mul_comm n (2 ^ k) in
        subst (λ (m : ℕ). min (n * 2 ^ m) 60000000 ≡ min 60000000 (2 ^ k * n)) (sym e) (omega (arith, c))
    by (inr many) =
        let e : min k 6 ≡ 6 = omega (arith, many) in
        let more : 2 ^ 6 * n ≤ 2 ^ k * n = mul-le-mul_right n (pow_mono many) in
        subst (λ (m : ℕ). min (n * 2 ^ m) 60000000 ≡ min 60000000 (2 ^ k * n)) (sym e) (omega (arith, more, h))

fits : (x : ℕ) → x ≤ 64 → (1 * x) % 2 ^ 64 ≡ x
fits x h = omega (arith, h)

-- as the code computes it
pub timeout_said : (r k j n m : ℕ) → j ≡ min k 6 → 1000000 ≤ n → n ≡ m → r ≡ min (n * ((1 * 2 ^ j) % 2 ^ 64)) 60000000 → r ≡ min 60000000 (2 ^ k * m)
timeout_said r k j n m few least is said =
    said
    ∙ ap (λ (x : ℕ). min (n * ((1 * 2 ^ x) % 2 ^ 64)) 60000000) few
    ∙ ap (λ (x : ℕ). min (n * x) 60000000) (fits (2 ^ min k 6) (pow_mono (six k)))
    ∙ doubled_enough k n least
    ∙ ap (λ (x : ℕ). min 60000000 (2 ^ k * x)) is
  where
    six : (k : ℕ) → min k 6 ≤ 6
    six k = omega arith
