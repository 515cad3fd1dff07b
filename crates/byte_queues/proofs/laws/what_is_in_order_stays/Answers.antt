use Rattle.byte_queues.proofs.AheadLemmas.{next-ahead, window-ahead, ready-ahead, ended-ahead, next-bytes-ahead, held-ahead, less-ahead}
use Rattle.byte_queues.proofs.laws.what_is_in_order_stays.Goals as goal

pub returns-clause-next : goal.returns-clause-next
returns-clause-next c = next-ahead

pub returns-clause-window : goal.returns-clause-window
returns-clause-window c = window-ahead

pub returns-clause-ready : goal.returns-clause-ready
returns-clause-ready c = ready-ahead

pub returns-clause-ended : goal.returns-clause-ended
returns-clause-ended c = ended-ahead

pub returns-clause-bytes : goal.returns-clause-bytes
returns-clause-bytes c = next-bytes-ahead

pub returns-clause-held : goal.returns-clause-held
returns-clause-held c = held-ahead

pub returns-clause-less : goal.returns-clause-less
returns-clause-less c = less-ahead
