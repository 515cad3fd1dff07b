use Rattle.tcb_machine.proofs.NumberLemmas.{new-numbered, segment-numbered, time-numbered, call-numbered, output-numbered, resent-numbered}
use Rattle.tcb_machine.proofs.laws.acknowledged_numbers_and_bytes_go_together.Goals as goal

pub returns-clause-new : goal.returns-clause-new
returns-clause-new c = new-numbered

pub returns-clause-segment : goal.returns-clause-segment
returns-clause-segment c = segment-numbered

pub returns-clause-time : goal.returns-clause-time
returns-clause-time c = time-numbered

pub returns-clause-call : goal.returns-clause-call
returns-clause-call c = call-numbered

pub returns-clause-output : goal.returns-clause-output
returns-clause-output c = output-numbered

pub returns-clause-resent : goal.returns-clause-resent
returns-clause-resent c = resent-numbered
