use Rattle.live_server.proofs.UrgentLemmas.{segment_raises, time_raises, unflagged_nothing, urgent_advances}
use Rattle.live_server.proofs.laws.urgent_pointers_only_advance.Goals as goal

pub returns-clause-pointer : goal.returns-clause-pointer
returns-clause-pointer c = urgent_advances

pub returns-clause-segment : goal.returns-clause-segment
returns-clause-segment c = segment_raises

pub returns-clause-time : goal.returns-clause-time
returns-clause-time c = time_raises

pub returns-clause-unflagged : goal.returns-clause-unflagged
returns-clause-unflagged c = unflagged_nothing
