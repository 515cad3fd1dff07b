use Rattle.histories.proofs.RingLists.{items_more}
use Rattle.squeue_pool.proofs.keys.push_items.Goals as goal

pub loop-n-preserved : goal.loop-n-preserved
loop-n-preserved c = items_more c.args.c c.loop-n.n c.args.list.now.items c.loop-n.list.items c.push.new.self.items c.in_ok-push.ensures.items c.loop-n.invariant
