use Rattle.std.proofs.Common.{◌≡◌}
use Rattle.squeue_rings.proofs.feeding.feed_intake.Given as goal

abbrev pub invariant-loop : goal.invariant-loop
invariant-loop g l = l.end-2 ≡ record { ring = l.ring.ring; put = l.counter }
