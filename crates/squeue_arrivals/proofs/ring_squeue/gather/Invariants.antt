use Rattle.std.proofs.Common.{◌≡◌, ◌+◌, ◌≤◌, ◌++◌, List, [], length, vec_capacity}
use Rattle.std.specs.Prelude.{All, reverse}
use Rattle.squeue_serve.specs.declared.jobs.Job.{Job}
use Rattle.squeue_serve.specs.Lending.{tasks_in}
use Rattle.squeue_arrivals.specs.declared.ring.RingTask.{RingTask}
use Rattle.squeue_arrivals.specs.Tasks.{ended_of, watched_in}
use Rattle.squeue_arrivals.proofs.ring_squeue.gather.Given as goal

-- the jobs from some number on are taken apart, and this is left of their sources
abbrev pub invariant-jobs : goal.invariant-jobs
invariant-jobs g l = record {
  gone : List (Job (RingTask g.row.T.Denot g.row.S.Denot g.row.A.Denot g.row.Z.Denot));
  all : l.fn.jobs.items ≡ l.jobs.items ++ gone;
  empty : All (λ j. j.places.items ≡ []) l.jobs.items;
  left : ended_of (tasks_in gone) ≡ reverse l.left.items;
  watched : l.watched ≡ watched_in (tasks_in gone);
  room : length l.left.items + length l.jobs.items ≤ vec_capacity l.left;
}

abbrev pub decreases-jobs : goal.decreases-jobs
decreases-jobs g l = length l.jobs.items
