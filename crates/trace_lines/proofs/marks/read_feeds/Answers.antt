use Rattle.trace_lines.proofs.FeedLines.{feeds_fail, feeds_last, feeds_more}
use Rattle.trace_lines.proofs.marks.read_feeds.Goals as goal

pub loop-feed-preserved : goal.loop-feed-preserved
loop-feed-preserved c =
    let read = c.in-Some.ensures in
    rw c.in_ok-push.ensures.items
    (feeds_more c.args.text.now c.loop-feed.rest.now c.in-Some.others.now c.loop-feed.feeds.items c.in-Some.feed c.loop-feed.invariant read.0 read.1 read.2)

pub returns-in_default-feed : goal.returns-in_default-feed
returns-in_default-feed c = feeds_fail c.args.text.now c.loop-feed.rest.now c.loop-feed.feeds.items c.loop-feed.invariant c.in_default.ensures c.in_default-feed.ensures

pub returns : goal.returns
returns c =
    let read = c.in-Some-feed.ensures in
    rw c.in_ok-push-2.ensures.items
    (feeds_last c.args.text.now c.loop-feed.rest.now c.in-Some-feed.others.now c.loop-feed.feeds.items c.in-Some-feed.feed c.loop-feed.invariant read.0 read.1 read.2)
