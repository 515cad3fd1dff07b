use Rattle.live_server.proofs.AgeLemmas.{own_entry_law}
use Rattle.live_server.proofs.laws.own_entry_gives_way.Goals as goal

pub returns : goal.returns
returns c = own_entry_law
