use Rattle.tcb_machine.proofs.KeepLemmas.{output-same, output-offered}
use Rattle.tcb_machine.proofs.laws.output_moves_no_text.Goals as goal

pub returns-clause-clock : goal.returns-clause-clock
returns-clause-clock c = λ b. (output-same b).clock

pub returns-clause-recv : goal.returns-clause-recv
returns-clause-recv c = λ b. (output-same b).recv

pub returns-clause-offered : goal.returns-clause-offered
returns-clause-offered c = output-offered
