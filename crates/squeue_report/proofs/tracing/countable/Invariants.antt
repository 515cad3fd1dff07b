use Rattle.squeue_report.specs.Countable.{IsCountable}
use Rattle.squeue_report.proofs.Elements.{HoldsBelow}
use Rattle.squeue_report.proofs.tracing.countable.Given as goal

abbrev pub invariant-loop-q : goal.invariant-loop-q
invariant-loop-q l = HoldsBelow IsCountable l.served.traces l.q
