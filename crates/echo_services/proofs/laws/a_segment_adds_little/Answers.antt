use Rattle.echo_services.proofs.ServingLemmas.{adds-next, adds-offered}
use Rattle.echo_services.proofs.laws.a_segment_adds_little.Goals as goal

pub returns-clause-next : goal.returns-clause-next
returns-clause-next c = adds-next

pub returns-clause-offered : goal.returns-clause-offered
returns-clause-offered c = adds-offered
