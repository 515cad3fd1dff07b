use Rattle.std.proofs.Common.{map, slice_set, sym, subst}
use Rattle.squeue_rings.specs.declared.task.Task.{Task}
use Rattle.squeue_rings.specs.Doing.{HasDone, MayDo}
use Rattle.squeue_rings.proofs.Works.{worked}
use Rattle.squeue_rings.proofs.doing.run_job.Goals as goal

pub returns-in-Drain : goal.returns-in-Drain
returns-in-Drain g c =
    let limits = g.R.Resident.limits in
    let h = c.args.pace.homes in
    let ss = c.args.access.now.squeues.now in
    let places = c.args.job.now.places.items in
    let may = subst (λ (t : Task). MayDo limits h.squeues h.spread (map (λ v. v.items) c.args.calls.now) c.args.intakes.now ss t places) c.in-Drain.is c.requires.ready in
    let done = worked limits ss c.in-Drain.q c.index-squeues-q.result places c.index_mut.result.now c.work.new.place may c.index-squeues-q.is c.index_mut.ensures.value c.work.ensures in
    subst (λ (t : Task). HasDone limits h.squeues h.spread c.args.pace.mode c.args.pace.budget (map (λ v. v.items) c.args.calls.now) c.args.intakes.now ss t places (slice_set places 0 c.work.new.place)) (sym c.in-Drain.is) done
