use Rattle.live_server.proofs.MarkingLemmas.{marking_stays, path_keeps_marking}
use Rattle.live_server.proofs.laws.a_marking_stays.Goals as goal

pub returns-clause-comes : goal.returns-clause-comes
returns-clause-comes c = marking_stays

pub returns-clause-path : goal.returns-clause-path
returns-clause-path c = path_keeps_marking
