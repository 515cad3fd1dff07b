use Rattle.std.proofs.Common.{◌≡◌, take}
use Rattle.squeue_report.specs.SummaryText.{check_behind}
use Rattle.squeue_report.proofs.checking.check_each.Given as goal

abbrev pub invariant-loop-byte : goal.invariant-loop-byte
invariant-loop-byte l = l.check ≡ check_behind l.before (take l.byte-index l.text)
