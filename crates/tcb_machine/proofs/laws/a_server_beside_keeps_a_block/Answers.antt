use Rattle.tcb_machine.proofs.BesideLemmas.{aborting-keeps, probing-keeps, resending-keeps, retiming-keeps, showing-keeps}
use Rattle.tcb_machine.proofs.laws.a_server_beside_keeps_a_block.Goals as goal

pub returns-clause-retimed : goal.returns-clause-retimed
returns-clause-retimed c = retiming-keeps

pub returns-clause-shown : goal.returns-clause-shown
returns-clause-shown c = showing-keeps

pub returns-clause-resent : goal.returns-clause-resent
returns-clause-resent c = resending-keeps

pub returns-clause-probed : goal.returns-clause-probed
returns-clause-probed c = probing-keeps

pub returns-clause-aborted : goal.returns-clause-aborted
returns-clause-aborted c = aborting-keeps
