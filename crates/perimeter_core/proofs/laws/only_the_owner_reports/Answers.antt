use Rattle.perimeter_core.proofs.OwnersReport.{others_report_nothing}
use Rattle.perimeter_core.proofs.laws.only_the_owner_reports.Goals as goal

pub returns : goal.returns
returns c = others_report_nothing
