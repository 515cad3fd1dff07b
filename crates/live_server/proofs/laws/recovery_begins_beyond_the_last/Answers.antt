use Rattle.live_server.proofs.PromiseLemmas.{begins_beyond}
use Rattle.live_server.proofs.laws.recovery_begins_beyond_the_last.Goals as goal

pub returns : goal.returns
returns c = begins_beyond
