use Rattle.squeue_rings.proofs.CallMarks.{none_beyond}
use Rattle.squeue_rings.proofs.laws.no_thread_beyond_calls.Goals as goal

pub returns : goal.returns
returns c = none_beyond
