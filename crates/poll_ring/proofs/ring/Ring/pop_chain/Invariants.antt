use Rattle.std.proofs.Common.{◌≡◌, ◌+◌, ◌≤◌}
use Rattle.poll_ring.proofs.ring.Ring.pop_chain.Given as goal

abbrev pub invariant-loop : goal.invariant-loop
invariant-loop g l =
    (l.end.ring ≡ l.self.ring) × (l.end.popped ≤ l.self.capacity) × (l.first ≤ l.end.popped) × (l.end.popped ≤ l.first + l.counter) × (l.first ≡ l.initial.end.popped)
