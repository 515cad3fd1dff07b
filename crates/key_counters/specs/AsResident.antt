-- Counters as a resident: their type, and their limits.
use Rattle.squeue.specs.History.{Limits}
use Rattle.squeue.specs.declared.Places.{Places}
use Rattle.squeue.specs.Placing as Placing
use Rattle.key_counters.specs.contracts.counters.AmountsParts.TheImpl.{ghosts}

abbrev pub Counters : Type 0
Counters = Places _ _ _ ghosts

abbrev pub limits_of : Counters → Limits
limits_of = Placing.limits_of {G = ghosts}
