use Rattle.live_server.proofs.TightLemmas.{tick_keeps_order, tight_holds_order}
use Rattle.live_server.proofs.laws.text_behind_gaps_gives_way.Goals as goal

pub returns-clause-order : goal.returns-clause-order
returns-clause-order c = tick_keeps_order

pub returns-clause-tight : goal.returns-clause-tight
returns-clause-tight c = tight_holds_order
