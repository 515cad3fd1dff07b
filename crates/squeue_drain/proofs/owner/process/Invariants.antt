use Rattle.std.proofs.Common.{◌≡◌, ◌+◌, ◌≤◌, length}
use Rattle.squeue_drain.specs.Owning.{Feeds}
use Rattle.squeue_drain.proofs.owner.process.Given as goal

abbrev pub invariant-loop-left : goal.invariant-loop-left
invariant-loop-left g l =
    record {
      feeds : Feeds g.R.Resident l.sq l.owner;
      pass : l.owner.pass ≡ l.initial.owner.pass;
      bound : l.left ≤ l.budget;
      count : length l.owner.hand.left + l.budget ≡ length l.initial.owner.hand.left + l.left;
    }

abbrev pub decreases-loop-left : goal.decreases-loop-left
decreases-loop-left g l = l.left
