-- The feeds that a connection has had when a stay begins are few.
use Rattle.std.proofs.Common.{ℕ, ◌+◌, ◌-◌, ◌*◌, ◌%◌, ◌^◌, ◌<◌, ◌≤◌, ◌==◌, Bool, true, false, if◌then◌else◌, arith}
use Rattle.std.proofs.Math.Nat.{mod-lt, mul-le-mul_left}
use Rattle.ring_quotas.specs.Limits.{most_spread, most_squeues}
use Rattle.squeue_replay.specs.Histories.{stay_of}

stay_most : (squeues q c n : ℕ) → 0 < squeues → stay_of squeues q c n ≤ squeues * (n + 1)
stay_most squeues q c n some = at ((q + squeues - c % squeues) % squeues == 0) (mod-lt (q + squeues - c % squeues) some)
  where
    at : (b : Bool) → (q + squeues - c % squeues) % squeues < squeues → (if b then squeues * (n + 1) else (q + squeues - c % squeues) % squeues + squeues * n) ≤ squeues * (n + 1)
    at true lt = omega arith
    at false lt = omega (arith, lt)

pub stay_fits : (squeues spread q c n : ℕ) → 0 < squeues → squeues ≤ most_squeues → spread ≤ most_spread → n < 2 ^ 40 → stay_of squeues q c n * spread < 2 ^ 64
stay_fits squeues spread q c n some few small low =
    let a = stay_most squeues q c n some in
    let more : n + 1 ≤ 2 ^ 40 = omega (arith, low) in
    let b : squeues * (n + 1) ≤ squeues * (2 ^ 40) = mul-le-mul_left squeues more in
    let d : stay_of squeues q c n * spread ≤ stay_of squeues q c n * 65535 = mul-le-mul_left (stay_of squeues q c n) small in
    omega (arith, a, b, d, few)
