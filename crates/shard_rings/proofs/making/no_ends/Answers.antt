use Rattle.std.proofs.Common.{◌+◌, sym, subst}
use Rattle.shard_rings.specs.Making.{AreEnds}
use Rattle.shard_rings.proofs.Laying.{one_empty}
use Rattle.shard_rings.proofs.making.no_ends.Goals as goal

pub loop-q-preserved : goal.loop-q-preserved
loop-q-preserved g c =
    subst (AreEnds 0 (c.loop-q._q + 1)) (sym c.in_ok-push.ensures.items) (one_empty c.loop-q._q c.loop-q.ends.items c.new.result c.new.ensures.items c.loop-q.invariant)
