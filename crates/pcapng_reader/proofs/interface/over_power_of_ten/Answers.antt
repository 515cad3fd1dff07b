use Rattle.std.proofs.Common.{arith, ◌<◌, ◌^◌}
use Rattle.pcapng_reader.proofs.Numbers.{none_left, ten_some}
use Rattle.pcapng_reader.proofs.interface.over_power_of_ten.Goals as goal

pub returns-then-v-ge26 : goal.returns-then-v-ge26
returns-then-v-ge26 c = none_left c.args.whole c.args.v (omega arith) (omega arith)

pub nonzero_div-result : goal.nonzero_div-result
nonzero_div-result c = let some : 0 < 10 ^ c.args.v = ten_some c.args.v in omega arith
