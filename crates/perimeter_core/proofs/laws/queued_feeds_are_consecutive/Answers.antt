use Rattle.perimeter_core.proofs.FeedOrder.{feeds_in_order}
use Rattle.perimeter_core.proofs.laws.queued_feeds_are_consecutive.Goals as goal

pub returns : goal.returns
returns c = feeds_in_order
