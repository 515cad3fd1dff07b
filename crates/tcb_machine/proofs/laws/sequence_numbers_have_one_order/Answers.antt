use Rattle.tcb_machine.proofs.TimeLemmas.{one-order}
use Rattle.tcb_machine.proofs.laws.sequence_numbers_have_one_order.Goals as goal

pub returns : goal.returns
returns c = one-order
