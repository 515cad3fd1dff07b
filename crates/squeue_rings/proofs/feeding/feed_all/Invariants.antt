use Rattle.std.proofs.Common.{◌≡◌}
use Rattle.squeue_rings.proofs.Fed.{fed}
use Rattle.squeue_rings.proofs.feeding.feed_all.Given as goal

abbrev pub invariant-loop-i : goal.invariant-loop-i
invariant-loop-i g l = l.ends.items ≡ fed l.i l.intakes
