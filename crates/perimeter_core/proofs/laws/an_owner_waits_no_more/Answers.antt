use Rattle.perimeter_core.proofs.OwnAsk.{waits_no_more}
use Rattle.perimeter_core.proofs.laws.an_owner_waits_no_more.Goals as goal

pub returns : goal.returns
returns c = waits_no_more
