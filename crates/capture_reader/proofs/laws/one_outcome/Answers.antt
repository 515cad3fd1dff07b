use Rattle.capture_reader.proofs.OneOutcome.{meets_once}
use Rattle.capture_reader.proofs.laws.one_outcome.Goals as goal

pub returns : goal.returns
returns c = meets_once
