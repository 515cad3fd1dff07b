use Rattle.live_server.proofs.FairLemmas.{one_is_shed, place_is_freed, shed_is_fair}
use Rattle.live_server.proofs.laws.one_leaves_for_others.Goals as goal

pub returns-clause-one : goal.returns-clause-one
returns-clause-one c = one_is_shed

pub returns-clause-fair : goal.returns-clause-fair
returns-clause-fair c = shed_is_fair

pub returns-clause-freed : goal.returns-clause-freed
returns-clause-freed c = place_is_freed
