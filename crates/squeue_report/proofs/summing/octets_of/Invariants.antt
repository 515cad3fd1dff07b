use Rattle.std.proofs.Common.{◌≡◌, ◌*◌, ◌≤◌, take}
use Rattle.squeue_report.specs.SummaryText.{text_size}
use Rattle.squeue_report.proofs.summing.octets_of.Given as goal

abbrev pub invariant-loop-i : goal.invariant-loop-i
invariant-loop-i l = record {
  value : l.octets ≡ text_size (take l.i l.tcb.replies);
  few : l.octets ≤ 1460 * l.i;
}
