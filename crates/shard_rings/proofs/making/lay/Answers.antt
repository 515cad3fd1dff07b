use Rattle.std.proofs.Common.{◌≡◌, ◌∷◌, [], List, length, reverse, refl, ap, sym, ◌∙◌, subst, arith, rules}
use Rattle.std.proofs.lemmas.List.{reverse-append, reverse-reverse}
use Rattle.shard_rings.specs.declared.run.RingTask.{RingTask}
use Rattle.shard_rings.specs.declared.run.Task.{Task}
use Rattle.shard_rings.proofs.Laying.{SoFar, all_laid, none_laid, one_laid}
use Rattle.shard_rings.proofs.making.lay.Goals as goal

pub rings-init : goal.rings-init
rings-init g c =
    let all = c.args.rings.items in
    let left : all ≡ reverse c.reverse.new.self.items = sym (ap reverse c.reverse.ensures.items ∙ reverse-reverse all) in
    subst (λ (l : List g.row.B.Denot). SoFar all l c.args.squeues c.in_ok-ends.ends.items c.new-tasks.result.items) left
    (none_laid all c.args.squeues c.in_ok-ends.ends.items c.new-tasks.result.items c.new-tasks.ensures.items c.in_ok-ends.ensures)

pub rings-preserved : goal.rings-preserved
rings-preserved g c =
    let all = c.args.rings.items in
    let b = c.in-Some.bringer in
    let left = reverse c.pop.new.self.items in
    let tasks = c.rings.tasks.items in
    let turned : reverse c.rings.rings.items ≡ b ∷ left = ap reverse c.in-Some.ensures.items ∙ reverse-append c.pop.new.self.items (b ∷ []) in
    let number : c.len-number.result ≡ length tasks = omega (arith, c.len-number.ensures, c.rings.tasks.ok.0) in
    let t : RingTask g.row.B.Denot g.row.P.Denot = record { number = c.len-number.result; bringer = b; cells = c.in_ok-cells.cells } in
    subst (λ (l : List (Task g.row.B.Denot g.row.P.Denot)). SoFar all left c.args.squeues c.cells_of.new.ends.items l) (sym c.in_ok-push.ensures.items)
    (one_laid all left b c.args.squeues c.rings.ends.items c.cells_of.new.ends.items tasks c.in_ok-cells.cells.items t c.in_ok-cells.ensures.count c.in_ok-cells.ensures.grown number refl refl
    (subst (λ (l : List g.row.B.Denot). SoFar all l c.args.squeues c.rings.ends.items tasks) turned c.rings.invariant))

pub returns-clause-tasks : goal.returns-clause-tasks
returns-clause-tasks g c =
    let empty : c.rings.rings.items ≡ [] = search rules in
    (all_laid c.args.rings.items (reverse c.rings.rings.items) c.args.squeues c.rings.ends.items c.rings.tasks.items (ap reverse empty) c.rings.invariant).0

pub returns-clause-ends : goal.returns-clause-ends
returns-clause-ends g c =
    let empty : c.rings.rings.items ≡ [] = search rules in
    (all_laid c.args.rings.items (reverse c.rings.rings.items) c.args.squeues c.rings.ends.items c.rings.tasks.items (ap reverse empty) c.rings.invariant).1
