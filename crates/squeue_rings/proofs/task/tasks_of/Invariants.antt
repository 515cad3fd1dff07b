use Rattle.std.proofs.Common.{◌≡◌, ◌++◌, ℕ, map}
use Rattle.std.specs.List.{range_with_len}
use Rattle.squeue_rings.specs.declared.task.Task.TheVariants as Task'
use Rattle.squeue_rings.proofs.task.tasks_of.Given as goal

abbrev pub invariant-loop-thread : goal.invariant-loop-thread
invariant-loop-thread l = l.tasks.items ≡ l.initial.tasks.items ++ map (λ (j : ℕ). Task'.Call j) (range_with_len 0 l.thread)

abbrev pub invariant-loop-q : goal.invariant-loop-q
invariant-loop-q l = l.tasks.items ≡ l.initial.tasks.items ++ map (λ (q : ℕ). Task'.Drain q) (range_with_len 0 l.q)
