use Rattle.std.proofs.Common.{◌≡◌, ◌∷◌, [], List, length, reverse, refl, ap, sym, ◌∙◌, subst, arith}
use Rattle.std.proofs.lemmas.List.{reverse-append, reverse-reverse}
use Rattle.squeue_rings.specs.declared.intake.IntakeEnds.{IntakeEnds}
use Rattle.squeue_rings.proofs.Tasked.{SoFar, none_yet, one_more}
use Rattle.squeue_rings.proofs.task.take_apart.Goals as goal

pub loop-ring-init : goal.loop-ring-init
loop-ring-init c =
    let all = c.args.rings.items in
    let left : all ≡ reverse c.reverse.new.self.items = sym (ap reverse c.reverse.ensures.items ∙ reverse-reverse all) in
    rw (c.new-intakes.ensures.items, c.new-ends.ensures.items, c.new-tasks.ensures.items)
    (subst (λ (es : List IntakeEnds). SoFar c.args.squeues all es [] [] []) left (none_yet c.args.squeues all c.requires))

pub loop-ring-preserved : goal.loop-ring-preserved
loop-ring-preserved c =
    let all = c.args.rings.items in
    let e = c.in-Some.ring in
    let left = reverse c.pop.new.self.items in
    let intakes = c.loop-ring.intakes.items in
    let polling = c.in_ok-polling.polling in
    let flags : length polling.items ≡ c.args.squeues = omega (arith, c.in_ok-polling.ensures.len, polling.ok.0) in
    let number : c.len-number.result ≡ length intakes = omega (arith, c.len-number.ensures, c.loop-ring.intakes.ok.0) in
    let turned : reverse c.loop-ring.rings.items ≡ e ∷ left = ap reverse c.in-Some.ensures.items ∙ reverse-append c.pop.new.self.items (e ∷ []) in
    rw (c.in_ok-push.ensures.items, c.in_ok-push-2.ensures.items, c.in_ok-push-3.ensures.items)
    (one_more c.args.squeues all left intakes c.loop-ring.ends.items c.loop-ring.tasks.items e (record { number = c.len-number.result; end = e.poll; polling = polling })
    (subst (λ (es : List IntakeEnds). SoFar c.args.squeues all es intakes c.loop-ring.ends.items c.loop-ring.tasks.items) turned c.loop-ring.invariant) number refl flags)
