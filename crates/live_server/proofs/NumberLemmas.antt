-- Numbers modulo 2^32.
use Rattle.std.proofs.Common.{◌≡◌, ℕ, ◌+◌, ◌%◌, ◌^◌}
use Rattle.std.proofs.Math.Nat.{mod-add-mod}

pub low_sum : (n h : ℕ) → (n % 2 ^ 32 + h) % 2 ^ 32 ≡ (n + h) % 2 ^ 32
low_sum n h = mod-add-mod n (2 ^ 32) h
