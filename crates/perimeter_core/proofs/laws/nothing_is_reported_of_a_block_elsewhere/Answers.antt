use Rattle.perimeter_core.proofs.OwnersReport.{none_reported}
use Rattle.perimeter_core.proofs.laws.nothing_is_reported_of_a_block_elsewhere.Goals as goal

pub returns : goal.returns
returns c = none_reported
