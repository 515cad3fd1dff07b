use Rattle.live_server.proofs.LawLemmas.{own_connection_law}
use Rattle.live_server.proofs.laws.own_connection_acts.Goals as goal

pub returns : goal.returns
returns c = own_connection_law
