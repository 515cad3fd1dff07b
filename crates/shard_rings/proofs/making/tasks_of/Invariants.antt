use Rattle.std.proofs.Common.{length}
use Rattle.shard_rings.specs.Making.{AreTasks, IsLaid}
use Rattle.shard_rings.proofs.making.tasks_of.Given as goal

abbrev pub invariant-loop-q : goal.invariant-loop-q
invariant-loop-q g l = AreTasks (length l.fn.rings.items) l.q (IsLaid l.fn.rings.items l.ends.items) l.tasks.items
