use Rattle.std.proofs.Common.{◌≡◌, ◌+◌, ◌-◌, ◌≤◌, length, drop}
use Rattle.byte_queues.specs.Runs.{count_up_to}
use Rattle.byte_queues.proofs.run.runs_touched.Given as goal

abbrev pub invariant-loop-n : goal.invariant-loop-n
invariant-loop-n l = (l.n ≤ length l.runs) × (count_up_to l.stop l.runs ≡ l.n + count_up_to l.stop (drop l.n l.runs))

abbrev pub decreases-loop-n : goal.decreases-loop-n
decreases-loop-n l = length l.initial.runs - l.n
