use Rattle.std.proofs.Common.{◌≡◌, ◌++◌, ◌∷◌, [], map, sym, ap, ◌∙◌, arith, rules}
use Rattle.std.proofs.lemmas.List.{append-nil, append_assoc}
use Rattle.std.specs.Prelude.{reverse}
use Rattle.squeue_arrivals.specs.declared.ring.RingTask.TheVariants as Task'
use Rattle.squeue_arrivals.specs.Seating.{lookers_of}
use Rattle.squeue_arrivals.specs.Tasks.{tasks_for}
use Rattle.squeue_arrivals.proofs.RingTasks.{tasks_more}
use Rattle.squeue_arrivals.proofs.ring_squeue.tasks_of.Goals.{then-watched, else-watched}
use Rattle.squeue_arrivals.proofs.ring_squeue.tasks_of.Goals as goal

pub rings-preserved : goal.rings-preserved
rings-preserved g c =
    let i = c.rings.invariant in
    record {
      tasks = tasks_more c.rings.tasks.items c.push_reserved.new.self.items c.rings.rings.items c.pop.new.self.items c.in-Some.ring _ c.in-Some.ensures.items c.push_reserved.ensures.items i.tasks;
      room = omega (arith, i.room, c.push_reserved.ensures.len, c.in-Some.ensures.len, c.push_reserved.ensures.capacity);
    }

pub returns : goal.returns
returns g c =
    let none : c.rings.rings.items ≡ [] = search rules in
    let all : c.rings.tasks.items ≡ map (λ x. Task'.Serve x) c.args.rings.items =
    sym (append-nil c.rings.tasks.items) ∙ (sym (ap (λ l. c.rings.tasks.items ++ map (λ x. Task'.Serve x) (reverse l)) none) ∙ c.rings.invariant.tasks) in
    elim c.if-watched.branch [
      | then-watched w ↦
          c.push_reserved-2.ensures.items ∙ (ap (λ v. v.items ++ Task'.Work ∷ []) w.tasks-is ∙ (ap (λ l. l ++ Task'.Work ∷ []) (w.push_reserved-then-watched.ensures.items ∙ ap (λ l. l ++ Task'.Watch ∷ []) all)
          ∙ (append_assoc (map (λ x. Task'.Serve x) c.args.rings.items) (Task'.Watch ∷ []) (Task'.Work ∷ []) ∙ ap (λ b. tasks_for (lookers_of b) c.args.rings.items) (sym w.if-watched.true))))
      | else-watched w ↦
          c.push_reserved-2.ensures.items ∙ (ap (λ v. v.items ++ Task'.Work ∷ []) w.tasks-is ∙ (ap (λ l. l ++ Task'.Work ∷ []) all ∙ ap (λ b. tasks_for (lookers_of b) c.args.rings.items) (sym w.if-watched.false)))
    ]
