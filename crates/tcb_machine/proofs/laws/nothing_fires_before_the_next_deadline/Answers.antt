use Rattle.tcb_machine.proofs.TimeLemmas.{time-quiet}
use Rattle.tcb_machine.proofs.laws.nothing_fires_before_the_next_deadline.Goals as goal

pub returns : goal.returns
returns c = time-quiet
