use Rattle.live_server.proofs.LawLemmas.{others_stay_law}
use Rattle.live_server.proofs.laws.others_stay.Goals as goal

pub returns : goal.returns
returns c = others_stay_law
