use Rattle.live_server.proofs.TickLemmas.{time_leaves}
use Rattle.live_server.proofs.laws.only_these_leave_in_time.Goals as goal

pub returns : goal.returns
returns c = time_leaves
