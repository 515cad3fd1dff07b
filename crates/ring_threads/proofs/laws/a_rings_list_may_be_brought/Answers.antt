use Rattle.ring_threads.proofs.Sufficing.{all_may_bring}
use Rattle.ring_threads.proofs.laws.a_rings_list_may_be_brought.Goals as goal

pub returns : goal.returns
returns g c = all_may_bring g.R.Resident.limits
