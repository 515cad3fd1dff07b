use Rattle.std.proofs.Common.{◌≡◌, ◌++◌, map, take}
use Rattle.histories.specs.Quotas.{pairs}
use Rattle.squeue_pool.specs.Quotas.{ring_quota, thread_quota}
use Rattle.squeue_pool.proofs.quotas.quotas_of.Given as goal

abbrev pub invariant-loop-called : goal.invariant-loop-called
invariant-loop-called l =
    pairs l.quotas.items ≡ map ring_quota (map (λ list. list.items) l.lists) ++ map (λ called. thread_quota l.counts called.items) (take l.called-index l.calls)
