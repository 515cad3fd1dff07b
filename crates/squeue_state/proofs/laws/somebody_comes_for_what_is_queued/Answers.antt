use Rattle.squeue_state.proofs.Comes.{lies_whole}
use Rattle.squeue_state.proofs.laws.somebody_comes_for_what_is_queued.Goals as goal

pub returns : goal.returns
returns g c = λ f n s h free. lies_whole g.R.Resident f n s h free
