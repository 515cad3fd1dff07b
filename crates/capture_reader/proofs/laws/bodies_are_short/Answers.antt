use Rattle.capture_reader.proofs.ShortBodies.{short}
use Rattle.capture_reader.proofs.laws.bodies_are_short.Goals as goal

pub returns : goal.returns
returns c = short
