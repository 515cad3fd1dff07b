use Rattle.conn_blocks.proofs.WholeOrders.{is_feeds, are_equal}
use Rattle.conn_blocks.proofs.laws.whole_orders_without_calls_are_equal.Goals as goal

pub returns-clause-feeds : goal.returns-clause-feeds
returns-clause-feeds c = is_feeds

pub returns-clause-equal : goal.returns-clause-equal
returns-clause-equal c = are_equal
