use Rattle.datagram_services.proofs.Written.{front_of_report, whole_report}
use Rattle.datagram_services.proofs.run.report.Goals as goal

pub write_more-requires : goal.write_more-requires
write_more-requires g c = c.in_ok-served.ensures.served

pub returns-in-Ok : goal.returns-in-Ok
returns-in-Ok g c = whole_report c.args.capture.now c.in_ok-plan.plan _ c.write_more.result c.in_ok-plan.ensures c.write_more.ensures _ c.in-Ok.is

pub returns : goal.returns
returns g c = front_of_report c.args.capture.now c.in_ok-plan.plan _ c.write_more.result c.in_ok-plan.ensures c.write_more.ensures _ c.in-Err.is
