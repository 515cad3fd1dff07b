use Rattle.synch_enter.proofs.Claiming.{at, gives, first, grants, handed}
use Rattle.synch_enter.proofs.coming.hand_on.Goals as goal

pub grant-requires-clause-hand : goal.grant-requires-clause-hand
grant-requires-clause-hand g c = (at g.R.Resident c.args.sq.now c.args.owner c.turn-turn.result c.requires.feeds c.requires.next c.turn-turn.ensures).left

pub grant-requires-clause-first : goal.grant-requires-clause-first
grant-requires-clause-first g c = first g.R.Resident c.args.sq.now c.args.owner c.turn-turn.result c.requires.feeds c.requires.next c.turn-turn.ensures

pub grant-requires-clause-resident : goal.grant-requires-clause-resident
grant-requires-clause-resident g c = gives g.R.Resident c.args.sq.now c.args.owner c.turn-turn.result c.requires.feeds c.requires.next c.turn-turn.ensures

pub grant-requires-clause-may : goal.grant-requires-clause-may
grant-requires-clause-may g c = grants g.R.Resident c.args.sq.now c.args.owner c.turn-turn.result c.requires.feeds c.requires.next c.turn-turn.ensures

pub returns : goal.returns
returns g c = handed g.R.Resident c.args.sq.now c.args.owner c.turn-turn.result c.requires.feeds c.requires.next c.turn-turn.ensures c.grant.result c.grant.ensures
