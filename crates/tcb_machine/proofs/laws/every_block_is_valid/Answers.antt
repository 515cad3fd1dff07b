use Rattle.tcb_machine.specs.CallAnswers.{tcp_call}
use Rattle.tcb_machine.specs.Output.{output}
use Rattle.tcb_machine.specs.Timers.{tcp_time}
use Rattle.tcb_machine.specs.Validity.{left_by}
use Rattle.tcb_machine.proofs.ValidLemmas.{new-valid, segment-valid, time-moved, call-moved, output-moved, moved-valid, resent-valid, forgotten-valid}
use Rattle.tcb_machine.proofs.laws.every_block_is_valid.Goals as goal

pub returns-clause-new : goal.returns-clause-new
returns-clause-new c = new-valid

pub returns-clause-segment : goal.returns-clause-segment
returns-clause-segment c = segment-valid

pub returns-clause-time : goal.returns-clause-time
returns-clause-time c = λ to b v. moved-valid b (tcp_time to b) (time-moved to b v)

pub returns-clause-call : goal.returns-clause-call
returns-clause-call c = λ a b h v. moved-valid b (left_by (tcp_call a b).verdict) (call-moved a b h v)

pub returns-clause-output : goal.returns-clause-output
returns-clause-output c = λ b v. moved-valid b (output b) (output-moved b v)

pub returns-clause-resent : goal.returns-clause-resent
returns-clause-resent c = resent-valid

pub returns-clause-forgotten : goal.returns-clause-forgotten
returns-clause-forgotten c = forgotten-valid
