use Rattle.squeue_pool.proofs.Placed.{SoFar}
use Rattle.squeue_pool.proofs.placing.places_of.Given as goal

abbrev pub invariant-loop-q : goal.invariant-loop-q
invariant-loop-q g l = SoFar l.shared l.count l.squeues l.q l.all.items
