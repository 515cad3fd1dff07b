use Rattle.echo_services.proofs.ServingLemmas.{serves-beside, serves-block}
use Rattle.echo_services.specs.WholeStreams.{whole_new}
use Rattle.echo_services.proofs.laws.serving_is_kept.Goals as goal

pub returns-clause-block : goal.returns-clause-block
returns-clause-block c = λ p es. serves-block p es whole_new

pub returns-clause-beside : goal.returns-clause-beside
returns-clause-beside c = serves-beside
