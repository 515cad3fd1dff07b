use Rattle.std.proofs.Common.{◌≡◌}
use Rattle.squeue_tests.proofs.rings.finds_all.Given as goal

abbrev pub invariant-loop : goal.invariant-loop
invariant-loop g l =
    (goal.iterator-loop g).can_next l.iterator' × (goal.iterator-loop g).is_finite l.iterator' × (l.end.ring ≡ l.initial.end.ring) × (l.initial.end.ring ≡ l.ring.ring)
