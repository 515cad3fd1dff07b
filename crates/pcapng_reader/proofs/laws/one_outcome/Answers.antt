use Rattle.pcapng_reader.proofs.Outcomes.{meets_once}
use Rattle.pcapng_reader.proofs.laws.one_outcome.Goals as goal

pub returns : goal.returns
returns c = meets_once
