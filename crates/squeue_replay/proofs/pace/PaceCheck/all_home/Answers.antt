use Rattle.std.proofs.Common.{◌∙◌, add-one, sym}
use Rattle.squeue_replay.proofs.FeedsAtHome.{home_at, home_more}
use Rattle.squeue_replay.proofs.Paces.{unlike}
use Rattle.squeue_replay.proofs.pace.PaceCheck.all_home.Goals as goal

pub returns-then-not-is_home : goal.returns-then-not-is_home
returns-then-not-is_home c = (
  λ e. unlike (sym e),
  λ are. unlike (sym (c.is_home.ensures.1 (home_at c.args.self.now.setup.squeues c.args.self.now.setup.spread c.args.self.now.squeue _ c.args.feeds.now c.loop-feed.feed-index c.loop-feed-test.true are, tt)) ∙ c.if-not-is_home.true),
)

pub loop-feed-preserved : goal.loop-feed-preserved
loop-feed-preserved c =
    rw add-one
    (home_more c.args.self.now.setup.squeues c.args.self.now.setup.spread c.args.self.now.squeue _ c.args.feeds.now c.loop-feed.feed-index c.loop-feed-test.true c.loop-feed.invariant (c.is_home.ensures.0 c.if-not-is_home.false).0)
