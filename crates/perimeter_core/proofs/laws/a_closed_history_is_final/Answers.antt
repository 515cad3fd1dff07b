use Rattle.perimeter_core.proofs.TheEnd.{final}
use Rattle.perimeter_core.proofs.laws.a_closed_history_is_final.Goals as goal

pub returns : goal.returns
returns c = final
