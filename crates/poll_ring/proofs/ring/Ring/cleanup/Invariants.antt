use Rattle.std.proofs.Common.{◌≡◌, ◌≤◌}
use Rattle.poll_ring.proofs.ring.Ring.cleanup.Given as goal

abbrev pub invariant-loop : goal.invariant-loop
invariant-loop g l =
    (goal.iterator-loop g).can_next l.iterator' × (goal.iterator-loop g).is_finite l.iterator' × (l.end.ring ≡ l.self.ring) × (l.end.popped ≤ l.self.capacity) × (l.first ≤ l.end.popped) × (l.first ≡ l.initial.end.popped)
