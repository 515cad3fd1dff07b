use Rattle.std.proofs.Common.{◌<◌, sym, subst, length}
use Rattle.squeue_state.specs.Told.{Traced, Within}
use Rattle.squeue_state.proofs.Marks.{within_at}
use Rattle.squeue_state.proofs.trace.Trace.mark.Goals as goal

pub returns-clause-places : goal.returns-clause-places
returns-clause-places c =
    let v = c.self.view_is in
    let below : c.args.i < length c.self.inside.marks.items = subst (λ (t : Traced). c.args.i < length t.marks) (sym v) c.requires in
    subst (λ (t : Traced). Within (length t.entries) c.index.result.now) v
    (subst (Within (length c.self.inside.entries.items)) (sym c.index.ensures) (within_at (length c.self.inside.entries.items) c.self.inside.marks.items c.args.i c.index.result.now below c.self.invariant))
