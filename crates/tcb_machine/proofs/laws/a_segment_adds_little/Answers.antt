use Rattle.tcb_machine.proofs.ValidLemmas.{segment-next, segment-offered, call-next, call-offered}
use Rattle.tcb_machine.proofs.KeepLemmas.{time-less}
use Rattle.tcb_machine.proofs.laws.a_segment_adds_little.Goals as goal

pub returns-clause-next : goal.returns-clause-next
returns-clause-next c = segment-next

pub returns-clause-offered : goal.returns-clause-offered
returns-clause-offered c = segment-offered

pub returns-clause-next_timed : goal.returns-clause-next_timed
returns-clause-next_timed c = λ to b. (time-less to b).next

pub returns-clause-next_called : goal.returns-clause-next_called
returns-clause-next_called c = call-next

pub returns-clause-offered_called : goal.returns-clause-offered_called
returns-clause-offered_called c = call-offered
