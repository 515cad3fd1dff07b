use Rattle.perimeter_core.proofs.AtItsAsk.{nothing_queued}
use Rattle.perimeter_core.proofs.laws.a_ring_at_its_ask_is_last.Goals as goal

pub returns : goal.returns
returns c = nothing_queued
