use Rattle.std.proofs.Common.{refl}
use Rattle.perimeter_core.specs.declared.entries.Entry.TheVariants.{Feed}
use Rattle.perimeter_core.proofs.AskLists.{has_more}
use Rattle.perimeter_core.proofs.few.has_ask.Goals as goal
use Rattle.perimeter_core.proofs.few.has_ask.Goals.{then-found, else-found}

pub loop-e-preserved : goal.loop-e-preserved
loop-e-preserved c =
    let more = has_more c.args.p c.args.entries.now c.loop-e.e-index (Feed 0 0) c.loop-e-test.true in
    rw (more, ← c.loop-e.invariant)
    (elim c.if-found.branch [
      | then-found w ↦ rw (w.found-is, w.if-found.true) refl
      | else-found w ↦ rw (w.found-is, w.if-found.false) w.is_ask-found.ensures
    ])
