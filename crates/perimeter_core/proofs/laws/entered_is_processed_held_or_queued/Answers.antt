use Rattle.perimeter_core.proofs.OrderAndWake.{order}
use Rattle.perimeter_core.proofs.laws.entered_is_processed_held_or_queued.Goals as goal

pub returns : goal.returns
returns c = order
