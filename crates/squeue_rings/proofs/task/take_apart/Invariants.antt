use Rattle.std.proofs.Common.{length, reverse}
use Rattle.squeue_rings.proofs.Tasked.{SoFar}
use Rattle.squeue_rings.proofs.task.take_apart.Given as goal

abbrev pub invariant-loop-ring : goal.invariant-loop-ring
invariant-loop-ring l = SoFar l.squeues l.fn.rings.items (reverse l.rings.items) l.intakes.items l.ends.items l.tasks.items

abbrev pub decreases-loop-ring : goal.decreases-loop-ring
decreases-loop-ring l = length l.rings.items
