use Rattle.ring_threads.proofs.Ends.{numbered}
use Rattle.ring_threads.proofs.laws.fed_is_numbered.Goals as goal

pub returns : goal.returns
returns c = numbered
