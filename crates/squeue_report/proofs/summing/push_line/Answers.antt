use Rattle.squeue_report.proofs.SummaryParts.{three_parts}
use Rattle.squeue_report.proofs.summing.push_line.Goals as goal

pub returns : goal.returns
returns c =
    let sums = c.args.sums.now in
    three_parts _ _ _ _ _ c.args.number sums.bytes sums.records sums.conns sums.replies sums.octets c.in_ok-write.ensures.bytes c.in_ok-write-2.ensures.bytes c.in_ok-writeln.ensures.bytes
