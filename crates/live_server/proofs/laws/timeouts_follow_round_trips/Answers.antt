use Rattle.live_server.proofs.RoundTripLemmas.{timeouts_follow}
use Rattle.live_server.proofs.laws.timeouts_follow_round_trips.Goals as goal

pub returns : goal.returns
returns c = timeouts_follow
