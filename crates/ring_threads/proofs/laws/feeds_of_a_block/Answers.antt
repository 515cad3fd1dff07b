use Rattle.histories.proofs.AllFed.{all_fed}
use Rattle.ring_threads.proofs.laws.feeds_of_a_block.Goals as goal

pub returns : goal.returns
returns c = all_fed
