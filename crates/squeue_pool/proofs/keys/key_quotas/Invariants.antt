use Rattle.std.proofs.Common.{◌≡◌, map}
use Rattle.std.specs.List.{range_with_len}
use Rattle.histories.specs.Quotas.{pairs}
use Rattle.squeue_pool.specs.Keys.{quotas_at}
use Rattle.squeue_pool.proofs.keys.key_quotas.Given as goal

abbrev pub invariant-loop-q : goal.invariant-loop-q
invariant-loop-q l = map (λ quotas. pairs quotas.items) l.quotas.items ≡ map (quotas_at l.squeues (map (λ list. list.items) l.lists)) (range_with_len 0 l.q)
