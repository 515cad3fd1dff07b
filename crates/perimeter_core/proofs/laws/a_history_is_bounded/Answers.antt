use Rattle.perimeter_core.proofs.HistoryLength.{bounded, length_bounded}
use Rattle.perimeter_core.proofs.laws.a_history_is_bounded.Goals as goal

pub returns-clause-stated : goal.returns-clause-stated
returns-clause-stated c = length_bounded

pub returns-clause-closer : goal.returns-clause-closer
returns-clause-closer c = bounded
