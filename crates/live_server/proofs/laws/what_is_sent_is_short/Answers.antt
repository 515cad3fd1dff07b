use Rattle.live_server.proofs.PathLemmas.{placed_short}
use Rattle.live_server.proofs.ShortLemmas.{new_short, segment_short, time_keeps_short}
use Rattle.live_server.proofs.laws.what_is_sent_is_short.Goals as goal

pub returns-clause-new : goal.returns-clause-new
returns-clause-new c = new_short

pub returns-clause-segment : goal.returns-clause-segment
returns-clause-segment c = segment_short

pub returns-clause-placed : goal.returns-clause-placed
returns-clause-placed c = placed_short

pub returns-clause-time : goal.returns-clause-time
returns-clause-time c = time_keeps_short
