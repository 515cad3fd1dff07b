use Rattle.ring_threads.proofs.Sufficing.{all_may_make}
use Rattle.ring_threads.proofs.laws.a_threads_calls_may_be_made.Goals as goal

pub returns : goal.returns
returns g c = all_may_make g.R.Resident.limits
