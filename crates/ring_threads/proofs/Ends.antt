-- The feeds of a block stand by number.
use Rattle.std.proofs.Common.{◌≡◌, ℕ, List, length, sym, ap, ◌∙◌}
use Rattle.std.specs.List.{range_with_len}
use Rattle.perimeter_core.specs.declared.entries.Act.{Act}
use Rattle.perimeter_core.specs.Deeds.{fed, feed_numbers}
use Rattle.conn_classifier.specs.Plan.{PlanOf}
use Rattle.conn_blocks.specs.CallLists.{CallLists}
use Rattle.conn_blocks.specs.ServeOrder.{BlockOf}
use Rattle.conn_blocks.specs.Holding.{StandsFor}
use Rattle.conn_blocks.specs.SettledFeeds.{feeds_settle}
use Rattle.histories.proofs.Counts.{fed_counts}

pub numbered : (p : PlanOf) (calls : CallLists) (c : ℕ) (came : List Act) (b : BlockOf) → StandsFor p calls c came b
    → feed_numbers came ≡ range_with_len 0 (fed came)
numbered p calls c came b is =
    let same : feed_numbers b.order ≡ feed_numbers came = ap feed_numbers is.order ∙ feeds_settle calls c came in
    sym same ∙ (is.settled.feeds ∙ ap (range_with_len 0) (ap length same ∙ fed_counts came))
