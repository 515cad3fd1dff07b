use Rattle.squeue_rings.proofs.CallMarks.{calls_kept}
use Rattle.squeue_rings.proofs.laws.a_thread_knows_its_calls.Goals as goal

pub returns : goal.returns
returns c = calls_kept
