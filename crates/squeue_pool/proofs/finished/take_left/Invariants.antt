use Rattle.std.proofs.Common.{◌+◌, ◌≤◌, length, vec_capacity}
use Rattle.squeue_pool.proofs.AllPlaced.{SoFar}
use Rattle.squeue_pool.proofs.finished.take_left.Given as goal

abbrev pub invariant-loop-last : goal.invariant-loop-last
invariant-loop-last g l =
    record {
      so_far : SoFar g.R.Resident (length l.fn.places.items) l.fn.left.items l.left.items l.places.items l.ends.items;
      room : length l.ends.items + length l.left.items ≤ vec_capacity l.ends;
    }

abbrev pub decreases-loop-last : goal.decreases-loop-last
decreases-loop-last g l = length l.left.items
