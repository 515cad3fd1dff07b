-- A squeue that has room for all that its quotas let come.
use Rattle.std.specs.Prelude.{◌≤◌}
use Rattle.squeue_state.specs.Behind.{room_of}
use Rattle.squeue_state.specs.Naming.{Given}

abbrev pub HasAllRoom : {R : Type 0} → Given R → Type 0
HasAllRoom g = room_of g.quotas ≤ g.room
