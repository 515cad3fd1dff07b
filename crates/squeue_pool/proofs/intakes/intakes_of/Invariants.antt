use Rattle.std.proofs.Common.{length, reverse}
use Rattle.squeue_pool.proofs.IntakesOf.{SoFar}
use Rattle.squeue_pool.proofs.intakes.intakes_of.Given as goal

abbrev pub invariant-loop-list : goal.invariant-loop-list
invariant-loop-list l = SoFar l.fn.lists.items (reverse l.lists.items) l.intakes.items

abbrev pub decreases-loop-list : goal.decreases-loop-list
decreases-loop-list l = length l.lists.items
