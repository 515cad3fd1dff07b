use Rattle.synch_enter.proofs.Asking.{may_at, came}
use Rattle.synch_enter.proofs.coming.synch_enter.Goals as goal

pub come-requires : goal.come-requires
come-requires g c = may_at g.R.Resident.limits c.args.sq.now c.args.pass c.turn-turn.result c.requires c.turn-turn.ensures

pub returns-clause-came : goal.returns-clause-came
returns-clause-came g c =
    came g.R.Resident.limits c.args.sq.now c.args.pass c.turn-turn.result c.come.result.pass c.requires.pass c.turn-turn.ensures c.come.ensures.owner.owns.pass c.come.ensures.owner.owns.legal c.come.ensures.number c.come.ensures.came
