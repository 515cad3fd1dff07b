use Rattle.perimeter_core.proofs.Rests.{rests_since}
use Rattle.perimeter_core.proofs.laws.the_resident_rests.Goals as goal

pub returns : goal.returns
returns c = rests_since
