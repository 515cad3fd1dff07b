use Rattle.poll_ring.proofs.Keeping.{puts, within}
use Rattle.poll_ring.proofs.ring.Ring.push.Goals as goal

pub push_as-requires-clause-rule : goal.push_as-requires-clause-rule
push_as-requires-clause-rule g c = (puts _ _ _ _ c.end.invariant.1, within _ _ _ c.end.invariant.1)
