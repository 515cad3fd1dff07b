use Rattle.std.proofs.Common.{◌≡◌, length}
use Rattle.squeue_report.specs.SummaryText.{check_behind}
use Rattle.squeue_report.proofs.checking.check_behind.Given as goal

-- what is checked, with what is to be checked
abbrev pub invariant-loop-rest : goal.invariant-loop-rest
invariant-loop-rest l = check_behind l.check l.rest ≡ check_behind l.before l.text

abbrev pub decreases-loop-rest : goal.decreases-loop-rest
decreases-loop-rest l = length l.rest
