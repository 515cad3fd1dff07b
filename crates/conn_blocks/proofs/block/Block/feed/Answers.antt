use Rattle.conn_blocks.proofs.Held.{feed_is_next, stands_feed}
use Rattle.conn_blocks.proofs.block.Block.feed.Goals as goal

pub keep_next-requires-clause-next : goal.keep_next-requires-clause-next
keep_next-requires-clause-next c =
    let had = c.requires.next in
    (feed_is_next c.args.plan.now c.args.calls.now c.args.c had.0 c.args.self.now had.1 c.args.n had.2, c.requires.item)

pub returns : goal.returns
returns c =
    let e = c.keep_next.ensures in
    λ came is. stands_feed c.args.plan.now c.args.calls.now c.args.c came c.args.self.now is c.args.n c.requires.item c.keep_next.new.self e.settled e.order e.stages
