use Rattle.std.proofs.Common.{◌≡◌, ◌+◌, ◌≤◌, ◌++◌, length, map, vec_capacity, vec_len}
use Rattle.std.specs.Prelude.{reverse}
use Rattle.squeue_arrivals.specs.declared.ring.RingTask.TheVariants as Task'
use Rattle.squeue_arrivals.proofs.ring_squeue.tasks_of.Given as goal

abbrev pub invariant-rings : goal.invariant-rings
invariant-rings g l =
    record {
      tasks : l.tasks.items ++ map (λ x. Task'.Serve x) (reverse l.rings.items) ≡ map (λ x. Task'.Serve x) l.fn.rings.items;
      room : vec_len l.tasks + vec_len l.rings + 2 ≤ vec_capacity l.tasks;
    }

abbrev pub decreases-rings : goal.decreases-rings
decreases-rings g l = length l.rings.items
