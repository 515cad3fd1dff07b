use Rattle.std.proofs.Common.{refl, sym, subst}
use Rattle.turn_gate.specs.declared.pass.Pass.{Pass}
use Rattle.perimeter_core.specs.History.{Element}
use Rattle.squeue_drain.specs.Working.{Worked}
use Rattle.squeue_drain.proofs.Workers.{worked_trans, worked_off, worked_onward, worked_none, no_feed}
use Rattle.squeue_drain.proofs.Drains.{on_start}
use Rattle.squeue_drain.proofs.working.drain_all.Goals as goal

pub loop-init : goal.loop-init
loop-init g c =
    record {
      feeds = c.requires.feeds;
      has = c.requires.has;
      worked = worked_none g.R.Resident.limits c.args.sq.now c.args.owner.pass c.args.owner.pass (on_start g.R.Resident c.args.sq.now c.args.owner c.requires.feeds) c.requires.feeds.owns.own refl;
    }

pub decide-requires-clause-front : goal.decide-requires-clause-front
decide-requires-clause-front g c = λ e. no_feed c.process.new.owner.hand.left c.process.result c.len-all.result _ c.process.ensures.stops c.process.ensures.count c.len-all.ensures

pub loop-preserved : goal.loop-preserved
loop-preserved g c =
    let n = c.process.new.owner in
    let on = c.in-Goes.ensures.1 in
    record {
      feeds = on.feeds;
      has = on.has;
      worked = worked_trans g.R.Resident.limits c.args.sq.now c.args.owner.pass n.pass c.in-Goes.next.pass
          (subst (λ (p : Pass Element). Worked g.R.Resident.limits c.args.sq.now c.args.owner.pass p) (sym c.process.ensures.pass) c.loop.invariant.worked)
          (worked_onward g.R.Resident c.args.sq.now n c.in-Goes.next on);
    }

pub returns-in-Ended : goal.returns-in-Ended
returns-in-Ended g c =
    let n = c.process.new.owner in
    worked_trans g.R.Resident.limits c.args.sq.now c.args.owner.pass n.pass c.in-Ended.pass
    (subst (λ (p : Pass Element). Worked g.R.Resident.limits c.args.sq.now c.args.owner.pass p) (sym c.process.ensures.pass) c.loop.invariant.worked)
    (worked_off g.R.Resident.limits c.args.sq.now n c.in-Ended.pass c.in-Ended.ensures.0)
