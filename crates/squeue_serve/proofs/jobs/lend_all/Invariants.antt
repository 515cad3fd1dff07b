use Rattle.std.proofs.Common.{◌≡◌, ◌+◌, ◌≤◌, ◌++◌, ℕ, List, length, vec_capacity}
use Rattle.turn_gate.specs.declared.pass.Pass.{Pass}
use Rattle.perimeter_core.specs.History.{Element}
use Rattle.squeue_serve.specs.Lending.{HaveRoom, holder, lent_to, tasks_in}
use Rattle.squeue_serve.proofs.Lent.{From, HandedOver}
use Rattle.squeue_serve.proofs.jobs.lend_all.Given as goal

abbrev pub invariant-loop-pass : goal.invariant-loop-pass
invariant-loop-pass g l =
    record {
      handed : HandedOver (From l.count (length l.passes.items)) (holder l.front l.count l.q) l.fn.passes.items (lent_to l.fn.jobs.items) (lent_to l.jobs.items);
      behind : List (Pass Element);
      left : l.fn.passes.items ≡ l.passes.items ++ behind;
      tasks : tasks_in l.jobs.items ≡ tasks_in l.fn.jobs.items;
      places : (n : ℕ) → HaveRoom n l.fn.jobs.items → HaveRoom n l.jobs.items;
      room : l.count + 1 ≤ vec_capacity l.passes;
    }

abbrev pub decreases-loop-pass : goal.decreases-loop-pass
decreases-loop-pass g l = goal.left-loop-pass g l
