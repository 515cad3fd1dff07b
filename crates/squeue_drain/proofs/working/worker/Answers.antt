use Rattle.std.proofs.Common.{◌∙◌, inr}
use Rattle.squeue_drain.proofs.Workers.{worked_since}
use Rattle.squeue_drain.proofs.working.worker.Goals as goal

pub returns-then-over-clause-worked : goal.returns-then-over-clause-worked
returns-then-over-clause-worked g c = worked_since g.R.Resident.limits c.args.sq.now c.args.pass c.loop.pass c.work_once-next.result.0 c.loop.invariant.worked c.work_once-next.ensures.worked

pub loop-preserved : goal.loop-preserved
loop-preserved g c =
    let w = c.work_once-next.ensures.worked in
    record {
      is = w.goes_on.is_pass;
      worker = w.goes_on.same_number ∙ c.loop.invariant.worker;
      worked = inr (worked_since g.R.Resident.limits c.args.sq.now c.args.pass c.loop.pass c.work_once-next.result.0 c.loop.invariant.worked w);
    }
