use Rattle.perimeter_core.proofs.LeavesFew.{leaves_few}
use Rattle.perimeter_core.proofs.laws.a_block_leaves_within_its_limit.Goals as goal

pub returns : goal.returns
returns c = leaves_few
