use Rattle.std.proofs.Common.{◌≡◌, ◌++◌}
use Rattle.histories.specs.Lists.{items_of}
use Rattle.squeue_pool.proofs.keys.push_items.Given as goal

abbrev pub invariant-loop-n : goal.invariant-loop-n
invariant-loop-n l = l.list.items ≡ l.initial.list.items ++ items_of l.c 0 l.n
