use Rattle.squeue_drain.proofs.Workers.{worked_trans, worked_plain, worked_on, works, may_here}
use Rattle.squeue_drain.proofs.Deciding.{is_not}
use Rattle.squeue_drain.proofs.working.work_once.Goals as goal

pub returns-then-not-waits_for_worker-clause-worked : goal.returns-then-not-waits_for_worker-clause-worked
returns-then-not-waits_for_worker-clause-worked g c = worked_plain g.R.Resident.limits c.args.sq.now c.args.pass c.plain-pass.result c.turn-turn.result c.requires.pass c.turn-turn.ensures (λ w. is_not _ c.if-not-waits_for_worker.true (c.waits_for_worker.ensures.1 w)) c.plain-pass.ensures

pub work-pass-requires-clause-may : goal.work-pass-requires-clause-may
work-pass-requires-clause-may g c = may_here g.R.Resident.limits c.args.sq.now c.args.pass c.turn-turn.result c.turn-turn.ensures c.requires.worker (c.waits_for_worker.ensures.0 c.if-not-waits_for_worker.false)

pub drain_all-requires-clause-feeds : goal.drain_all-requires-clause-feeds
drain_all-requires-clause-feeds g c =
    let may = may_here g.R.Resident.limits c.args.sq.now c.args.pass c.turn-turn.result c.turn-turn.ensures c.requires.worker (c.waits_for_worker.ensures.0 c.if-not-waits_for_worker.false) in
    let w = works g.R.Resident c.args.sq.now c.args.pass c.turn-turn.result c.work-pass.result.0 c.work-pass.result.1 c.work-pass.result.2 c.turn-turn.ensures c.requires.worker may c.work-pass.ensures.pass c.work-pass.ensures.hand c.work-pass.ensures.resident in
    w.feeds

pub drain_all-requires-clause-has : goal.drain_all-requires-clause-has
drain_all-requires-clause-has g c =
    let may = may_here g.R.Resident.limits c.args.sq.now c.args.pass c.turn-turn.result c.turn-turn.ensures c.requires.worker (c.waits_for_worker.ensures.0 c.if-not-waits_for_worker.false) in
    let w = works g.R.Resident c.args.sq.now c.args.pass c.turn-turn.result c.work-pass.result.0 c.work-pass.result.1 c.work-pass.result.2 c.turn-turn.ensures c.requires.worker may c.work-pass.ensures.pass c.work-pass.ensures.hand c.work-pass.ensures.resident in
    w.has

pub returns-clause-worked : goal.returns-clause-worked
returns-clause-worked g c =
    let may = may_here g.R.Resident.limits c.args.sq.now c.args.pass c.turn-turn.result c.turn-turn.ensures c.requires.worker (c.waits_for_worker.ensures.0 c.if-not-waits_for_worker.false) in
    worked_trans g.R.Resident.limits c.args.sq.now c.args.pass c.work-pass.result.0 c.drain_all.result
    (worked_on g.R.Resident.limits c.args.sq.now c.args.pass c.work-pass.result.0 c.turn-turn.result c.requires.pass c.turn-turn.ensures may c.work-pass.ensures.pass)
    c.drain_all.ensures
