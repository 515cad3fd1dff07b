use Rattle.pcapng_reader.proofs.Outcomes.{meets_some}
use Rattle.pcapng_reader.proofs.laws.some_outcome.Goals as goal

pub returns : goal.returns
returns c = meets_some
