use Rattle.byte_queues.proofs.WholeLemmas.{next-trim, placed-trim, bytes-trim, without-trim, cap-trim, end-trim, ended-trim}
use Rattle.byte_queues.proofs.AheadLemmas.{trim-ahead}
use Rattle.byte_queues.proofs.laws.received_is_kept.Goals as goal

pub returns-clause-next : goal.returns-clause-next
returns-clause-next c = next-trim

pub returns-clause-placed : goal.returns-clause-placed
returns-clause-placed c = placed-trim

pub returns-clause-bytes : goal.returns-clause-bytes
returns-clause-bytes c = bytes-trim

pub returns-clause-without : goal.returns-clause-without
returns-clause-without c = without-trim

pub returns-clause-ahead : goal.returns-clause-ahead
returns-clause-ahead c = trim-ahead

pub returns-clause-capacity : goal.returns-clause-capacity
returns-clause-capacity c = cap-trim

pub returns-clause-ending : goal.returns-clause-ending
returns-clause-ending c = end-trim

pub returns-clause-ended : goal.returns-clause-ended
returns-clause-ended c = ended-trim
