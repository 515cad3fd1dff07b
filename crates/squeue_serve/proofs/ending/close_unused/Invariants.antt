use Rattle.std.proofs.Common.{◌≡◌}
use Rattle.squeue_serve.specs.Lending.{lent_to, tasks_in}
use Rattle.squeue_serve.proofs.Unused.{ClosedBelow}
use Rattle.squeue_serve.proofs.ending.close_unused.Given as goal

abbrev pub invariant-loop-p : goal.invariant-loop-p
invariant-loop-p g l =
    record {
      closed : ClosedBelow g.R.Resident.limits l.front l.count l.p l.squeues (lent_to l.fn.jobs.items) (lent_to l.jobs.items);
      tasks : tasks_in l.jobs.items ≡ tasks_in l.fn.jobs.items;
    }
