use Rattle.ring_threads.proofs.AllActs.{are_all}
use Rattle.ring_threads.proofs.laws.whole_acts.Goals as goal

pub returns : goal.returns
returns c = are_all
