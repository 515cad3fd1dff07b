use Rattle.std.proofs.Common.{◌≡◌, ℕ, ◌*◌, ◌/◌, ◌≤◌, arith}
use Rattle.std.proofs.Math.Nat.{div-mul-le_self, mul-div-le, mul-le-mul_left, mul-le-mul_right}
use Rattle.squeue_bench.proofs.items.items_each.Goals as goal

within : (d e : ℕ) → d * (e / d / 32 * 32) ≤ e
within d e = let a : d * (e / d / 32 * 32) ≤ d * (e / d) = mul-le-mul_left d (div-mul-le_self (e / d) 32) in omega (arith, a, mul-div-le e d)

fewer : (s r i : ℕ) → 1 ≤ s → 1 * r * i ≤ s * r * i
fewer s r i l = mul-le-mul_right i (mul-le-mul_right r l)

one : (r i : ℕ) → 1 * r * i ≡ r * i
one r i = grind arith

pub returns-clause-all : goal.returns-clause-all
returns-clause-all c = within (c.args.squeues * c.args.rings) c.args.entries

pub returns-clause-each : goal.returns-clause-each
returns-clause-each c =
    let i = c.args.entries / (c.args.squeues * c.args.rings) / 32 * 32 in omega (arith, one c.args.rings i, fewer c.args.squeues c.args.rings i c.requires.some.0, within (c.args.squeues * c.args.rings) c.args.entries)
