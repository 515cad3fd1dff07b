use Rattle.std.proofs.Common.{◌≡◌, ◌++◌, drop}
use Rattle.byte_queues.specs.Runs.{fill}
use Rattle.byte_queues.proofs.run.filled.Given as goal

abbrev pub invariant-loop-run : goal.invariant-loop-run
invariant-loop-run l = l.bytes.items ++ fill l.next l.at l.text (drop l.run-index l.runs) ≡ fill l.start l.at l.text l.runs
