use Rattle.squeue_drain.specs.Owning.{Feeds, HasFeeds}
use Rattle.squeue_drain.specs.Working.{Worked}
use Rattle.squeue_drain.proofs.working.drain_all.Given as goal

abbrev pub invariant-loop : goal.invariant-loop
invariant-loop g l =
    record {
      feeds : Feeds g.R.Resident l.sq l.owner;
      has : HasFeeds g.R.Resident.limits l.sq l.owner;
      worked : Worked g.R.Resident.limits l.sq l.fn.owner.pass l.owner.pass;
    }
