use Rattle.conn_blocks.proofs.SettledOrders.{settled_already}
use Rattle.conn_blocks.proofs.laws.calls_in_order_settle_to_themselves.Goals as goal

pub returns : goal.returns
returns c = settled_already
