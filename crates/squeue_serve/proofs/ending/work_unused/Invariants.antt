use Rattle.std.proofs.Common.{◌≡◌}
use Rattle.squeue_serve.specs.Lending.{lent_to, tasks_in}
use Rattle.squeue_serve.proofs.Unused.{WorkedBelow}
use Rattle.squeue_serve.proofs.ending.work_unused.Given as goal

abbrev pub invariant-loop-q : goal.invariant-loop-q
invariant-loop-q g l =
    record {
      worked : WorkedBelow g.R.Resident.limits l.front l.count l.q l.squeues (lent_to l.fn.jobs.items) (lent_to l.jobs.items);
      tasks : tasks_in l.jobs.items ≡ tasks_in l.fn.jobs.items;
    }
