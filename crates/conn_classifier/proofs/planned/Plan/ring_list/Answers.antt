use Rattle.std.proofs.Common.{◌-◌, ◌++◌, [], ◌∷◌, ap, sym, ◌∙◌, append_assoc, eq-eqb}
use Rattle.std.proofs.lemmas.Bool.{ne_eqb}
use Rattle.conn_classifier.specs.RingList.{last_feeds}
use Rattle.conn_classifier.proofs.RingLaw.{last_on, last_off}
use Rattle.conn_classifier.proofs.planned.Plan.ring_list.Goals.{then-c-rings+in_ok-push, else-c-rings}
use Rattle.conn_classifier.proofs.planned.Plan.ring_list.Goals as goal

pub loop-c-preserved : goal.loop-c-preserved
loop-c-preserved c =
    let p = c.args.self.now in
    let n = c.loop-c.c in
    let front = c.in_ok-list.list.items in
    let so_far = c.loop-c.invariant in
    elim c.if-c-rings.branch [
      | then-c-rings+in_ok-push w ↦
          ap (λ v. v.items) w.list-is ∙ w.in_ok-push.ensures.items ∙ (λ k. so_far k ++ record { c = n; n = w.items.ensures.value k - 1 } ∷ [])
          ∙ append_assoc front (last_feeds p c.args.rings c.args.r n) _
          ∙ ap (λ l. front ++ l) (sym (last_on p c.args.rings c.args.r n (eq-eqb _ _ w.if-c-rings.true)))
      | else-c-rings w ↦
          ap (λ v. v.items) w.list-is ∙ so_far ∙ ap (λ l. front ++ l) (sym (last_off p c.args.rings c.args.r n (ne_eqb _ _ w.if-c-rings.false)))
    ]
