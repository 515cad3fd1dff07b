use Rattle.squeue_rings.proofs.CallMarks.{no_others}
use Rattle.squeue_rings.proofs.laws.nobody_makes_other_calls.Goals as goal

pub returns : goal.returns
returns c = no_others
