use Rattle.tcb_machine.proofs.ValidLemmas.{one-deadline}
use Rattle.tcb_machine.proofs.laws.at_most_one_deadline_is_set.Goals as goal

pub returns : goal.returns
returns c = one-deadline
