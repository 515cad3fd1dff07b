use Rattle.byte_queues.proofs.WholeLemmas.{unsent-kept, slice-kept, acked-kept, offered-kept, count-kept}
use Rattle.byte_queues.proofs.laws.offered_is_kept.Goals as goal

pub returns-clause-unsent : goal.returns-clause-unsent
returns-clause-unsent c = unsent-kept

pub returns-clause-slice : goal.returns-clause-slice
returns-clause-slice c = slice-kept

pub returns-clause-acked : goal.returns-clause-acked
returns-clause-acked c = acked-kept

pub returns-clause-offered : goal.returns-clause-offered
returns-clause-offered c = offered-kept

pub returns-clause-count : goal.returns-clause-count
returns-clause-count c = count-kept
