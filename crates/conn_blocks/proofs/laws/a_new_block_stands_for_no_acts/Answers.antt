use Rattle.conn_blocks.proofs.NewBlock.{new_stands}
use Rattle.conn_blocks.proofs.laws.a_new_block_stands_for_no_acts.Goals as goal

pub returns : goal.returns
returns c = new_stands
