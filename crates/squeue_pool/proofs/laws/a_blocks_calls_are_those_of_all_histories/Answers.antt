use Rattle.squeue_pool.proofs.Called.{calls_of_all}
use Rattle.squeue_pool.proofs.laws.a_blocks_calls_are_those_of_all_histories.Goals as goal

pub returns : goal.returns
returns c = calls_of_all
