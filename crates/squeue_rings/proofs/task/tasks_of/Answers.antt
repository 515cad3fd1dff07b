use Rattle.std.proofs.Common.{◌≡◌, ◌++◌, ◌∷◌, [], ℕ, List, ap, ◌∙◌, arith, length}
use Rattle.std.proofs.lemmas.List.{length-map}
use Rattle.squeue_rings.specs.declared.task.Task.{Task}
use Rattle.squeue_rings.specs.declared.task.Task.TheVariants as Task'
use Rattle.squeue_rings.proofs.Tasked.{all_tasks, are_tasks, numbers_more}
use Rattle.squeue_rings.proofs.task.tasks_of.Goals as goal

pub loop-thread-preserved : goal.loop-thread-preserved
loop-thread-preserved c = numbers_more (λ (j : ℕ). Task'.Call j) c.loop-thread.thread c.append.new.self.items c.loop-thread.tasks.items c.push-in-loop-thread.new.self.items c.loop-thread.invariant c.in_ok-push-2.ensures.items

pub loop-q-preserved : goal.loop-q-preserved
loop-q-preserved c = numbers_more (λ (q : ℕ). Task'.Drain q) c.loop-q.q c.loop-thread.tasks.items c.loop-q.tasks.items c.push-in-loop-q.new.self.items c.loop-q.invariant c.in_ok-push-3.ensures.items

pub returns-clause-tasks : goal.returns-clause-tasks
returns-clause-tasks c =
    let r = c.in_ok-intakes.field-0 in
    let first : c.append.new.self.items ≡ Task'.Feed r.ends ∷ r.tasks.items =
    c.in_ok-append.ensures.items ∙ ap (λ (l : List Task). l ++ r.tasks.items) (c.in_ok-push.ensures.items ∙ ap (λ (l : List Task). l ++ Task'.Feed r.ends ∷ []) c.new-tasks.ensures.items) in
    let called : c.loop-thread.thread ≡ c.args.callers = omega (arith, c.loop-thread-test.false, c.loop-thread.auto.thread-end) in
    let worked : c.loop-q.q ≡ c.args.squeues = omega (arith, c.loop-q-test.false, c.loop-q.auto.q-end) in
    are_tasks (length c.args.rings.items) c.args.callers c.args.squeues r.intakes.items r.ends r.tasks.items c.loop-q.tasks.items
    (ap length c.in_ok-intakes.ensures.intakes ∙ length-map c.args.rings.items (λ e. e.intake)) c.in_ok-intakes.ensures.have c.in_ok-intakes.ensures.ends c.in_ok-intakes.ensures.tasks
    (all_tasks (Task'.Feed r.ends ∷ r.tasks.items) c.append.new.self.items c.loop-thread.tasks.items c.loop-q.tasks.items c.loop-thread.thread c.args.callers c.loop-q.q c.args.squeues called worked first c.loop-thread.invariant c.loop-q.invariant)
