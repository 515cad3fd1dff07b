use Rattle.live_server.proofs.UrgentLemmas.{urgent_own}
use Rattle.live_server.proofs.laws.urgent_data_is_its_own.Goals as goal

pub returns : goal.returns
returns c = urgent_own
