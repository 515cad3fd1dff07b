use Rattle.std.proofs.Common.{◌≡◌, take}
use Rattle.std.specs.List.{flat_map}
use Rattle.squeue_pool.proofs.errands.calls_of.Given as goal

abbrev pub invariant-loop-errand : goal.invariant-loop-errand
invariant-loop-errand g l = l.calls.items ≡ flat_map g.T.Errand.called (take l.errand-index l.row)
