use Rattle.squeue_rings.proofs.NewCallers.{new_callers}
use Rattle.squeue_rings.proofs.laws.new_passes_have_made_nothing.Goals as goal

pub returns : goal.returns
returns g c = λ j ss places own new. new_callers g.R.Resident.limits j ss places new
