use Rattle.std.proofs.Common.{◌≡◌, map}
use Rattle.std.specs.List.{range_with_len}
use Rattle.histories.specs.Lists.{list_of}
use Rattle.squeue_pool.proofs.keys.key_lists.Given as goal

abbrev pub invariant-loop-ring : goal.invariant-loop-ring
invariant-loop-ring l = map (λ list. list.items) l.lists.items ≡ map (λ r. list_of l.rings r 0 l.counts) (range_with_len 0 l.ring)
