use Rattle.std.proofs.Common.{◌≡◌, ◌≤◌, ◌++◌, ◌+◌, [], length, vec_capacity, vec_len}
use Rattle.std.specs.Prelude.{All}
use Rattle.std.specs.Prelude.{reverse}
use Rattle.squeue_serve.specs.Lending.{HaveRoom, tasks_in}
use Rattle.squeue_serve.proofs.jobs.jobs_of.Given as goal

abbrev pub invariant-loop-task : goal.invariant-loop-task
invariant-loop-task g l =
    record {
      tasks : tasks_in l.jobs.items ++ reverse l.tasks.items ≡ l.fn.tasks.items;
      free : vec_len l.jobs + vec_len l.tasks ≤ vec_capacity l.jobs;
      room : HaveRoom l.squeues l.jobs.items;
      empty : All (λ j. j.places.items ≡ []) l.jobs.items;
    }

abbrev pub decreases-loop-task : goal.decreases-loop-task
decreases-loop-task g l = length l.tasks.items
