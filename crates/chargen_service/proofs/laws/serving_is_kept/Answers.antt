use Rattle.chargen_service.proofs.GeneratingLemmas.{serves-now}
use Rattle.chargen_service.specs.WholeStream.{whole_new}
use Rattle.chargen_service.proofs.laws.serving_is_kept.Goals as goal

pub returns : goal.returns
returns c = λ es. serves-now es whole_new
