use Rattle.squeue_report.specs.Countable.{HasEnd}
use Rattle.squeue_report.proofs.Elements.{HoldsBelow}
use Rattle.squeue_report.proofs.tracing.is_countable.Given as goal

abbrev pub invariant-loop-i : goal.invariant-loop-i
invariant-loop-i l = HoldsBelow HasEnd l.trace.marks l.i
