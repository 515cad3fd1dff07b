use Rattle.squeue_rings.proofs.Pacing.{keeps_on}
use Rattle.squeue_rings.proofs.laws.a_ring_keeps_its_pace.Goals as goal

pub returns : goal.returns
returns c = λ squeues spread mode budget q S r. keeps_on squeues spread mode budget q S r
