use Rattle.squeue_rings.proofs.Starting.{none_brought}
use Rattle.squeue_rings.proofs.laws.new_passes_have_brought_nothing.Goals as goal

pub returns : goal.returns
returns g c = λ squeues spread r ss places some count numbered starts quotas new.
    none_brought g.R.Resident.limits squeues spread r ss places some count numbered starts new
