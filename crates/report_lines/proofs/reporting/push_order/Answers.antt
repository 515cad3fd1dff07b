use Rattle.report_lines.proofs.OrderTexts.{order_told}
use Rattle.report_lines.proofs.reporting.push_order.Goals as goal

pub returns : goal.returns
returns g c = order_told c.loop-rest.rest.now c.args.order.now _ _ _ _ c.in_default.len_below c.in_ok-put.ensures.told c.loop-rest.invariant c.in_ok-put-2.ensures.told
