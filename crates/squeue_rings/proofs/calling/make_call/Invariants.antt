use Rattle.std.proofs.Common.{◌≡◌, ℕ, List, length}
use Rattle.squeue_rings.specs.Calling.{CallersAt, MayMakeAll}
use Rattle.squeue_rings.proofs.CallersMake.{Tries}
use Rattle.squeue_rings.proofs.calling.make_call.Given as goal

abbrev pub invariant-loop : goal.invariant-loop
invariant-loop g l =
    (cs : List ℕ) → length cs ≡ l.k → MayMakeAll g.R.Resident.limits l.j l.k cs l.c l.access.squeues.now → CallersAt g.R.Resident.limits l.j cs l.access.squeues.now l.fn.places.items
    → Tries g.R.Resident.limits l.j l.k cs l.c l.access.squeues.now l.places.items
