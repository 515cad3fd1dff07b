use Rattle.tcb_machine.proofs.ForgettingLemmas.{forgetting-number, forgetting-window, forgetting-order, forgetting-less, forgetting-valid, forgetting-numbers, forgetting-room}
use Rattle.tcb_machine.proofs.laws.forgetting_keeps_what_is_acknowledged.Goals as goal

pub returns-clause-number : goal.returns-clause-number
returns-clause-number c = forgetting-number

pub returns-clause-window : goal.returns-clause-window
returns-clause-window c = forgetting-window

pub returns-clause-held : goal.returns-clause-held
returns-clause-held c = forgetting-order

pub returns-clause-less : goal.returns-clause-less
returns-clause-less c = forgetting-less

pub returns-clause-valid : goal.returns-clause-valid
returns-clause-valid c = forgetting-valid

pub returns-clause-numbers : goal.returns-clause-numbers
returns-clause-numbers c = forgetting-numbers

pub returns-clause-room : goal.returns-clause-room
returns-clause-room c = forgetting-room
