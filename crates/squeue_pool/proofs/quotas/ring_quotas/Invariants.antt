use Rattle.std.proofs.Common.{◌≡◌, map, take}
use Rattle.histories.specs.Quotas.{pairs}
use Rattle.squeue_pool.specs.Quotas.{ring_quota}
use Rattle.squeue_pool.proofs.quotas.ring_quotas.Given as goal

abbrev pub invariant-loop-list : goal.invariant-loop-list
invariant-loop-list l = pairs l.quotas.items ≡ map (λ list. ring_quota list.items) (take l.list-index l.lists)
