use Rattle.std.proofs.Common.{◌≡◌, ◌*◌, ◌≤◌, length, take, sum_by}
use Rattle.squeue_report.specs.SummaryText.{text_size}
use Rattle.squeue_report.proofs.summing.totals.Given as goal

abbrev pub invariant-loop-c : goal.invariant-loop-c
invariant-loop-c l = record {
  replies : l.replies ≡ sum_by (λ b. length b.tcb.replies) (take l.c l.served.blocks);
  octets : l.octets ≡ sum_by (λ b. text_size b.tcb.replies) (take l.c l.served.blocks);
  few_replies : l.replies ≤ 18446744073709551616 * l.c;
  few_octets : l.octets ≤ 26932246347616344719360 * l.c;
}
