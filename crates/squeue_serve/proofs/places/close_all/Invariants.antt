use Rattle.squeue_serve.specs.Places.{Holds, Became, MayClose, HasClosed}
use Rattle.squeue_serve.proofs.AtEach.{Changed}
use Rattle.squeue_serve.proofs.places.close_all.Given as goal

abbrev pub invariant-loop-q : goal.invariant-loop-q
invariant-loop-q g l = Changed (λ s o. Holds (MayClose g.R.Resident.limits s) o) (λ s o n. Became (HasClosed g.R.Resident.limits s) o n) l.q l.squeues l.initial.places.items l.places.items
