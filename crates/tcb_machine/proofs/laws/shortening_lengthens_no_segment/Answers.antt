use Rattle.tcb_machine.proofs.ShorteningLemmas.{shortening-less, shortening-valid, shortening-numbers, shortening-room}
use Rattle.tcb_machine.proofs.laws.shortening_lengthens_no_segment.Goals as goal

pub returns-clause-less : goal.returns-clause-less
returns-clause-less c = shortening-less

pub returns-clause-valid : goal.returns-clause-valid
returns-clause-valid c = shortening-valid

pub returns-clause-numbers : goal.returns-clause-numbers
returns-clause-numbers c = shortening-numbers

pub returns-clause-room : goal.returns-clause-room
returns-clause-room c = shortening-room
