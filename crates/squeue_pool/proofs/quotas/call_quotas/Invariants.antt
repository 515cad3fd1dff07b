use Rattle.std.proofs.Common.{◌≡◌, map}
use Rattle.histories.specs.Quotas.{pairs}
use Rattle.squeue_pool.specs.Quotas.{call_quotas}
use Rattle.squeue_pool.proofs.quotas.call_quotas.Given as goal

abbrev pub invariant-loop-q : goal.invariant-loop-q
invariant-loop-q l =
    map (λ quotas. pairs quotas.items) l.quotas.items ≡ call_quotas l.q (map (λ list. list.items) l.lists) l.counts (map (λ called. called.items) l.calls)
