use Rattle.std.proofs.Common.{◌≡◌, ◌+◌, length}
use Rattle.byte_queues.specs.Runs.{held_of}
use Rattle.byte_queues.proofs.run.held_in.Given as goal

abbrev pub invariant-loop-rest : goal.invariant-loop-rest
invariant-loop-rest l = l.sum + held_of l.rest ≡ held_of l.runs

abbrev pub decreases-loop-rest : goal.decreases-loop-rest
decreases-loop-rest l = length l.rest
