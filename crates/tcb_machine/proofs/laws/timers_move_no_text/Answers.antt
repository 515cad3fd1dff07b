use Rattle.tcb_machine.proofs.KeepLemmas.{time-less, time-offered}
use Rattle.tcb_machine.proofs.laws.timers_move_no_text.Goals as goal

pub returns-clause-taken : goal.returns-clause-taken
returns-clause-taken c = λ to b. (time-less to b).taken

pub returns-clause-offered : goal.returns-clause-offered
returns-clause-offered c = time-offered
