use Rattle.std.proofs.Common.{◌≡◌, take}
use Rattle.histories.specs.Lists.{list_of}
use Rattle.squeue_pool.proofs.keys.key_list.Given as goal

abbrev pub invariant-loop-c : goal.invariant-loop-c
invariant-loop-c l = l.list.items ≡ list_of l.rings l.ring 0 (take l.c l.counts)
