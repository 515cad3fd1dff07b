use Rattle.perimeter_core.proofs.ByAccept.{came_by_accept}
use Rattle.perimeter_core.proofs.laws.an_empty_hand_is_by_accept.Goals as goal

pub returns : goal.returns
returns c = came_by_accept
