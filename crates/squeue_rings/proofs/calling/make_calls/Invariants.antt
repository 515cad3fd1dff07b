use Rattle.std.proofs.Common.{take}
use Rattle.squeue_rings.specs.Calling.{CallersAt}
use Rattle.squeue_rings.proofs.calling.make_calls.Given as goal

abbrev pub invariant-loop-k : goal.invariant-loop-k
invariant-loop-k g l = CallersAt g.R.Resident.limits l.j (take l.k l.conns) l.access.squeues.now l.places.items
