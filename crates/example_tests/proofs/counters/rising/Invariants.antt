use Rattle.std.proofs.Common.{◌≡◌, length}
use Rattle.example_tests.proofs.counters.rising.Given as goal

abbrev pub invariant-loop-i : goal.invariant-loop-i
invariant-loop-i l = length l.row.items ≡ l.i
