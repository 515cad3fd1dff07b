use Rattle.live_server.proofs.PromiseLemmas.{challenges_apart}
use Rattle.live_server.proofs.laws.challenges_are_apart.Goals as goal

pub returns : goal.returns
returns c = challenges_apart
