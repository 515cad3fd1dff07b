use Rattle.byte_queues.proofs.WholeLemmas.{placed-held, without-held, next-count}
use Rattle.byte_queues.proofs.AheadLemmas.{read-ahead}
use Rattle.byte_queues.proofs.laws.what_is_taken_was_held.Goals as goal

pub returns-clause-placed : goal.returns-clause-placed
returns-clause-placed c = placed-held

pub returns-clause-without : goal.returns-clause-without
returns-clause-without c = without-held

pub returns-clause-ahead : goal.returns-clause-ahead
returns-clause-ahead c = read-ahead

pub returns-clause-bytes : goal.returns-clause-bytes
returns-clause-bytes c = next-count
