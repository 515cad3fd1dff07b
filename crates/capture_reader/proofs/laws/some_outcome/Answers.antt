use Rattle.capture_reader.proofs.SomeOutcome.{meets_some}
use Rattle.capture_reader.proofs.laws.some_outcome.Goals as goal

pub returns : goal.returns
returns c = meets_some
