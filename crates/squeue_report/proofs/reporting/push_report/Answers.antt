use Rattle.squeue_report.proofs.WholeTexts.{report_told}
use Rattle.squeue_report.proofs.reporting.push_report.Goals as goal

pub returns : goal.returns
returns g c = report_told c.args.plan.now c.args.served.now.blocks _ _ _ _ c.in_ok-put.ensures.told c.in_ok-push_body.ensures c.in_ok-put-2.ensures.told
