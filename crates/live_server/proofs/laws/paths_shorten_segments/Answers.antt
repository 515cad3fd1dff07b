use Rattle.live_server.proofs.PathLemmas.{heeded_short, path_bounded, unsent_ignored}
use Rattle.live_server.proofs.laws.paths_shorten_segments.Goals as goal

pub returns-clause-heeded : goal.returns-clause-heeded
returns-clause-heeded c = heeded_short

pub returns-clause-bounded : goal.returns-clause-bounded
returns-clause-bounded c = path_bounded

pub returns-clause-unsent : goal.returns-clause-unsent
returns-clause-unsent c = unsent_ignored
