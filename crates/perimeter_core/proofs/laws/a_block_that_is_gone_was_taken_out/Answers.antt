use Rattle.perimeter_core.proofs.Elsewhere.{taken_between}
use Rattle.perimeter_core.proofs.laws.a_block_that_is_gone_was_taken_out.Goals as goal

pub returns : goal.returns
returns c = taken_between
