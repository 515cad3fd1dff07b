-- What an owner did in one turn.
use Rattle.std.specs.Prelude.{◌≡◌, Bool, false}
use Rattle.perimeter_core.specs.declared.resident.Resident.{Ghosts}
use Rattle.squeue_state.specs.Naming.{Named}
use Rattle.squeue_drain.specs.declared.owner.Owner.{Owner}
use Rattle.squeue_drain.specs.declared.draining.Round.{Round}
use Rattle.squeue_drain.specs.declared.draining.Round.TheVariants.{Goes, Ended}
use Rattle.squeue_drain.specs.Draining.{Off, Onward, Tells}

abbrev pub Decided : {R P O : Type 0} → Ghosts R P O → Named R → Bool → Owner R → Round R → Type 0
Decided G s spent o (Goes next) = (spent ≡ false) × Onward G s o next
Decided G s spent o (Ended pass rest polling) = Off G.limits s spent o pass × Tells G.limits s pass rest polling
