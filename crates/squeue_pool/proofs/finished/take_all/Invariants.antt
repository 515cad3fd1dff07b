use Rattle.squeue_pool.proofs.Taking.{TakenBelow}
use Rattle.squeue_pool.proofs.finished.take_all.Given as goal

abbrev pub invariant-loop-c : goal.invariant-loop-c
invariant-loop-c g l = TakenBelow g.R.Resident l.fn.resident l.fn.places.items l.c l.resident l.places.items
