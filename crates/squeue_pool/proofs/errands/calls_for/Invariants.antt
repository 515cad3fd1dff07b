use Rattle.std.proofs.Common.{◌≡◌, map, take}
use Rattle.std.specs.List.{flat_map}
use Rattle.squeue_pool.proofs.errands.calls_for.Given as goal

abbrev pub invariant-loop-row : goal.invariant-loop-row
invariant-loop-row g l = map (λ called. called.items) l.calls.items ≡ map (λ row. flat_map g.T.Errand.called row.items) (take l.row-index l.errands)
