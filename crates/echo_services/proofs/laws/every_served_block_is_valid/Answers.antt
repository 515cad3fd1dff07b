use Rattle.echo_services.proofs.ServingLemmas.{enters-valid, serves-valid}
use Rattle.echo_services.proofs.laws.every_served_block_is_valid.Goals as goal

pub returns-clause-one : goal.returns-clause-one
returns-clause-one c = enters-valid

pub returns-clause-all : goal.returns-clause-all
returns-clause-all c = serves-valid
