use Rattle.perimeter_core.proofs.PassKept.{pass_kept}
use Rattle.perimeter_core.proofs.laws.passes_are_left_alone.Goals as goal

pub returns : goal.returns
returns c = pass_kept
