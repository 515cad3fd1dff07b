use Rattle.squeue_rings.proofs.PacedAll.{new_paced}
use Rattle.squeue_rings.proofs.laws.new_passes_are_paced.Goals as goal

pub returns : goal.returns
returns g c = new_paced g.R.Resident.limits
