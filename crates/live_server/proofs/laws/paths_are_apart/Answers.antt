use Rattle.live_server.proofs.PathLemmas.{too_long_apart}
use Rattle.live_server.proofs.laws.paths_are_apart.Goals as goal

pub returns : goal.returns
returns c = too_long_apart
