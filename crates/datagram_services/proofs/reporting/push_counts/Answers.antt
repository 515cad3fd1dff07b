use Rattle.std.proofs.Common.{length}
use Rattle.datagram_services.proofs.LineParts.{counted}
use Rattle.datagram_services.proofs.reporting.push_counts.Goals as goal

pub returns : goal.returns
returns g c =
    let plan = c.args.plan.now in
    counted _ _ _ _ (length plan.file.packets) plan.file.cut plan.counts (length plan.streams) c.in_ok-push_records.ensures c.in_ok-push_kinds.ensures c.in_ok-push_streams.ensures
