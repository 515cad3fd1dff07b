use Rattle.std.proofs.Common.{◌≡◌, map, take}
use Rattle.histories.specs.Runs.{count, is_at}
use Rattle.histories.specs.Quotas.{pairs}
use Rattle.squeue_pool.proofs.keys.quotas_at.Given as goal

abbrev pub invariant-loop-list : goal.invariant-loop-list
invariant-loop-list l = pairs l.quotas.items ≡ map (λ list. (count (is_at l.squeues 0 l.q) list.items, 0)) (take l.list-index l.lists)
