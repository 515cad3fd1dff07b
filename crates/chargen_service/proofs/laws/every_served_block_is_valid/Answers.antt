use Rattle.chargen_service.proofs.GeneratingLemmas.{serves-valid}
use Rattle.chargen_service.proofs.laws.every_served_block_is_valid.Goals as goal

pub returns : goal.returns
returns c = serves-valid
