use Rattle.report_lines.proofs.LineParts.{counted}
use Rattle.report_lines.proofs.reporting.push_counts.Goals as goal

pub returns : goal.returns
returns g c =
    counted _ _ _ _ _ c.args.counts.now c.args.conns c.in_ok-push_served.ensures c.in_ok-push_dropped.ensures c.in_ok-push_field.ensures c.in_ok-put.ensures.told
