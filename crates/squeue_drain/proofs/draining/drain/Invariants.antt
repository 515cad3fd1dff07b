use Rattle.std.proofs.Common.{◌≤◌}
use Rattle.squeue_drain.specs.Owning.{Feeds, HasFeeds}
use Rattle.squeue_drain.proofs.Drains.{Since}
use Rattle.squeue_drain.proofs.draining.drain.Given as goal

abbrev pub invariant-loop : goal.invariant-loop
invariant-loop g l =
    record {
      feeds : Feeds g.R.Resident l.sq l.owner;
      has : HasFeeds g.R.Resident.limits l.sq l.owner;
      since : Since g.R.Resident l.sq l.budget l.left l.fn.owner l.owner;
      some : 1 ≤ l.left;
    }
