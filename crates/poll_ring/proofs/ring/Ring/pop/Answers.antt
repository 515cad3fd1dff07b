use Rattle.poll_ring.proofs.Keeping.{pops}
use Rattle.poll_ring.proofs.ring.Ring.pop.Goals as goal

pub pop_as-requires-clause-rule : goal.pop_as-requires-clause-rule
pop_as-requires-clause-rule g c = (pops _ _ _ c.end.invariant.1, λ _ _ _ _. tt)
