use Rattle.std.proofs.Common.{◌<◌, length, get_or, refl, ap, ◌∙◌, arith}
use Rattle.std.proofs.lemmas.List.{take_all}
use Rattle.histories.specs.Lists.{list_of}
use Rattle.histories.proofs.RingLists.{list_taken, list_skipped}
use Rattle.squeue_pool.proofs.keys.key_list.Goals as goal
use Rattle.squeue_pool.proofs.keys.key_list.Goals.{then-c-rings+in_ok-push_items, else-c-rings}

pub loop-c-preserved : goal.loop-c-preserved
loop-c-preserved c =
    let counts = c.args.counts.now in
    let i = c.loop-c.c in
    let lt : i < length counts = c.loop-c-test.true in
    elim c.if-c-rings.branch [
      | then-c-rings+in_ok-push_items w ↦
          list_taken c.args.rings c.args.ring i (get_or counts i 0) counts c.loop-c.list.items c.if-c-rings.list.items lt c.loop-c.invariant w.if-c-rings.true refl (ap (λ v. v.items) w.list-is ∙ w.in_ok-push_items.ensures)
      | else-c-rings w ↦
          list_skipped c.args.rings c.args.ring i counts c.loop-c.list.items c.if-c-rings.list.items lt c.loop-c.invariant w.if-c-rings.false (ap (λ v. v.items) w.list-is)
    ]

pub returns : goal.returns
returns c =
    let counts = c.args.counts.now in
    c.loop-c.invariant ∙ ap (list_of c.args.rings c.args.ring 0) (take_all c.loop-c.c counts (omega arith))
