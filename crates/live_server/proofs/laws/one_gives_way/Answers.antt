use Rattle.live_server.proofs.OneLemmas.{one_gives_way, segment_keeps_few, time_keeps_few}
use Rattle.live_server.proofs.laws.one_gives_way.Goals as goal

pub returns-clause-one : goal.returns-clause-one
returns-clause-one c = one_gives_way

pub returns-clause-segment : goal.returns-clause-segment
returns-clause-segment c = segment_keeps_few

pub returns-clause-time : goal.returns-clause-time
returns-clause-time c = time_keeps_few
