use Rattle.std.proofs.Common.{◌≡◌, ◌+◌, ◌≤◌, length, vec_capacity}
use Rattle.squeue_serve.specs.Lending.{holder, lent_to, tasks_in}
use Rattle.squeue_serve.proofs.Lent.{Below, HandedOver}
use Rattle.squeue_serve.proofs.ending.take_back.Given as goal

abbrev pub invariant-loop-p : goal.invariant-loop-p
invariant-loop-p g l =
    record {
      count : length l.passes.items ≡ l.p;
      room : l.count + 1 ≤ vec_capacity l.passes;
      handed : HandedOver (Below l.count l.p) (holder l.front l.count l.q) l.passes.items (lent_to l.jobs.items) (lent_to l.fn.jobs.items);
      tasks : tasks_in l.jobs.items ≡ tasks_in l.fn.jobs.items;
    }
