use Rattle.live_server.proofs.DrainLemmas.{each_closes, none_opens}
use Rattle.live_server.proofs.laws.a_drain_ends.Goals as goal

pub returns-clause-none : goal.returns-clause-none
returns-clause-none c = none_opens

pub returns-clause-each : goal.returns-clause-each
returns-clause-each c = each_closes
