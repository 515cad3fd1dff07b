use Rattle.perimeter_core.proofs.Since.{known_since}
use Rattle.perimeter_core.proofs.laws.what_a_pass_knows_still_holds.Goals as goal

pub returns : goal.returns
returns c = known_since
