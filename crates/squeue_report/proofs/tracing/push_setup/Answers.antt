use Rattle.report_lines.proofs.LineParts.{set_up}
use Rattle.squeue_report.proofs.tracing.push_setup.Goals as goal

pub returns : goal.returns
returns g c = set_up _ _ _ _ c.args.setup.now c.args.rules c.in_ok-push_sizes.ensures c.in_ok-push_mode.ensures c.in_ok-push_pace.ensures
