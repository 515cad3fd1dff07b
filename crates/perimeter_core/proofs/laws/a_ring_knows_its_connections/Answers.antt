use Rattle.perimeter_core.proofs.RingKnows.{ring_knows}
use Rattle.perimeter_core.proofs.laws.a_ring_knows_its_connections.Goals as goal

pub returns : goal.returns
returns c = ring_knows
