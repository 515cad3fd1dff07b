use Rattle.perimeter_core.proofs.Elsewhere.{none_processed}
use Rattle.perimeter_core.proofs.laws.nothing_of_a_block_elsewhere_is_processed.Goals as goal

pub returns : goal.returns
returns c = none_processed
