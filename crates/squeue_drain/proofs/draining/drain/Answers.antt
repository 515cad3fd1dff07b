use Rattle.squeue_drain.proofs.Deciding.{is_zero, not_zero}
use Rattle.squeue_drain.proofs.Drains.{since_fed, since_taken, drained}
use Rattle.squeue_drain.proofs.draining.drain.Goals as goal

pub loop-preserved : goal.loop-preserved
loop-preserved g c =
    let o = c.loop.owner in
    let n = c.process-left.new.owner in
    let on = c.in-Goes.ensures.1 in
    let fed = since_fed g.R.Resident c.args.sq.now c.args.budget c.process-left.result c.loop.left c.args.owner o n c.loop.invariant.since c.loop.invariant.feeds c.process-left.ensures.feeds c.process-left.ensures.pass c.process-left.ensures.count in
    record {
      feeds = on.feeds;
      has = on.has;
      since = since_taken g.R.Resident c.args.sq.now c.args.budget c.process-left.result c.args.owner n c.in-Goes.next (not_zero c.process-left.result c.in-Goes.ensures.0) fed on;
      some = not_zero c.process-left.result c.in-Goes.ensures.0;
    }

pub returns-in-Ended-clause-drained : goal.returns-in-Ended-clause-drained
returns-in-Ended-clause-drained g c =
    let o = c.loop.owner in
    let n = c.process-left.new.owner in
    let fed = since_fed g.R.Resident c.args.sq.now c.args.budget c.process-left.result c.loop.left c.args.owner o n c.loop.invariant.since c.loop.invariant.feeds c.process-left.ensures.feeds c.process-left.ensures.pass c.process-left.ensures.count in
    drained g.R.Resident c.args.sq.now c.args.budget c.process-left.result c.args.owner n _ c.in-Ended.pass fed (is_zero c.process-left.result) (not_zero c.process-left.result) c.in-Ended.ensures.0
