use Rattle.std.proofs.Common.{◌≡◌, length, take}
use Rattle.squeue_tests.specs.Rows.{in_order}
use Rattle.squeue_tests.proofs.worked.polling.fifteen.Given as goal

abbrev pub invariant-loop-n : goal.invariant-loop-n
invariant-loop-n l = record { size : length l.chain ≡ 15; front : take l.n l.chain ≡ in_order 0 0 l.n }
