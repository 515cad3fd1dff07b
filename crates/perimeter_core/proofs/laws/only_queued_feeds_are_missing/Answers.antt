use Rattle.perimeter_core.proofs.NextFeed.{had}
use Rattle.perimeter_core.proofs.laws.only_queued_feeds_are_missing.Goals as goal

pub returns : goal.returns
returns c = λ S H d. had S d H
