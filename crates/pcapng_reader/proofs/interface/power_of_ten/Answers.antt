use Rattle.std.proofs.Common.{◌≡◌, ◌≤◌, ◌+◌, ◌*◌, ◌^◌, arith}
use Rattle.pcapng_reader.proofs.Numbers.{ten_most, ten_next}
use Rattle.pcapng_reader.proofs.interface.power_of_ten.Goals as goal

pub overflow_mul-power : goal.overflow_mul-power
overflow_mul-power c =
    let most : 10 ^ c.loop-i.i ≤ 10 ^ 25 = ten_most c.loop-i.i 25 (omega arith) in
    omega arith

pub loop-i-preserved : goal.loop-i-preserved
loop-i-preserved c =
    let next : 10 ^ (c.loop-i.i + 1) ≡ 10 ^ c.loop-i.i * 10 = ten_next c.loop-i.i in
    omega arith
