use Rattle.std.proofs.Common.{[]}
use Rattle.synch_enter.proofs.Exiting.{at, exits}
use Rattle.stream_stays.proofs.Looks.{all_done, looked}
use Rattle.stream_stays.proofs.settling.leave.Goals as goal

pub leave-requires-clause-hand : goal.leave-requires-clause-hand
leave-requires-clause-hand g c = (at g.R.Resident c.args.sq.now [] c.args.owner c.turn-turn.result c.requires.stands c.turn-turn.ensures).left

pub leave-requires-clause-resident : goal.leave-requires-clause-resident
leave-requires-clause-resident g c = (at g.R.Resident c.args.sq.now [] c.args.owner c.turn-turn.result c.requires.stands c.turn-turn.ensures).resident

pub leave-requires-clause-may : goal.leave-requires-clause-may
leave-requires-clause-may g c = exits g.R.Resident c.args.sq.now [] c.args.owner c.turn-turn.result c.requires.stands c.turn-turn.ensures

pub returns-clause-moved : goal.returns-clause-moved
returns-clause-moved g c = λ from came. looked c.args.owner c.turn-turn.result came c.requires.stands c.requires.nothing c.turn-turn.ensures c.leave.ensures

pub returns-clause-fed : goal.returns-clause-fed
returns-clause-fed g c = λ from d came ring here. all_done c.args.owner c.turn-turn.result came c.requires.stands c.requires.nothing c.turn-turn.ensures c.leave.ensures d ring here
