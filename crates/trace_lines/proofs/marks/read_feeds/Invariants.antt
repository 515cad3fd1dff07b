use Rattle.std.proofs.Common.{length}
use Rattle.trace_lines.proofs.FeedLines.{FeedsRead}
use Rattle.trace_lines.proofs.marks.read_feeds.Given as goal

abbrev pub invariant-loop-feed : goal.invariant-loop-feed
invariant-loop-feed l = FeedsRead l.fn.text l.feeds.items l.rest

abbrev pub decreases-loop-feed : goal.decreases-loop-feed
decreases-loop-feed l = length l.rest
