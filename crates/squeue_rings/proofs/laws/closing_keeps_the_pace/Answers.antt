use Rattle.squeue_rings.proofs.PacedAll.{closed_paced}
use Rattle.squeue_rings.proofs.laws.closing_keeps_the_pace.Goals as goal

pub returns : goal.returns
returns g c = closed_paced g.R.Resident.limits
