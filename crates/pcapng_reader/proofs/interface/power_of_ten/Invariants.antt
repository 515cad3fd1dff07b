use Rattle.std.proofs.Common.{◌≡◌, ◌^◌}
use Rattle.pcapng_reader.proofs.interface.power_of_ten.Given as goal

abbrev pub invariant-loop-i : goal.invariant-loop-i
invariant-loop-i l = l.power ≡ 10 ^ l.i
