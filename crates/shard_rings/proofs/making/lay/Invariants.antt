use Rattle.std.proofs.Common.{length, reverse}
use Rattle.shard_rings.proofs.Laying.{SoFar}
use Rattle.shard_rings.proofs.making.lay.Given as goal

abbrev pub invariant-rings : goal.invariant-rings
invariant-rings g l = SoFar l.fn.rings.items (reverse l.rings.items) l.squeues l.ends.items l.tasks.items

abbrev pub decreases-rings : goal.decreases-rings
decreases-rings g l = length l.rings.items
