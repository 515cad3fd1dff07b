use Rattle.conn_blocks.proofs.WholeOrders.{is_whole}
use Rattle.conn_blocks.proofs.laws.a_settled_order_is_whole.Goals as goal

pub returns : goal.returns
returns c = is_whole
