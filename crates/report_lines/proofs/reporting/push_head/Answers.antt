use Rattle.report_lines.proofs.LineParts.{headed}
use Rattle.report_lines.proofs.reporting.push_head.Goals as goal

pub returns : goal.returns
returns g c = headed _ _ _ _ _ c.args.c c.args.tuple.now c.args.service c.in_ok-push_field.ensures c.in_ok-push_next_end.ensures c.in_ok-push_next_end-2.ensures c.in_ok-push_service.ensures
