use Rattle.std.proofs.Common.{◌≡◌, ◌+◌}
use Rattle.squeue_tests.proofs.rings.puts.Given as goal

abbrev pub invariant-loop : goal.invariant-loop
invariant-loop g l =
    (l.end.ring ≡ l.initial.end.ring) × (l.initial.end.ring ≡ l.ring.ring) × (l.end.put ≡ l.initial.end.put + l.counter)
