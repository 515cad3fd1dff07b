use Rattle.squeue_drain.proofs.Deciding.{marked_on}
use Rattle.histories.specs.Elements.{left_by_pass}
use Rattle.std.proofs.Common.{length}
use Rattle.synch_enter.proofs.Exiting.{at, exits, left_by, idle_again, taken_acts}
use Rattle.synch_enter.proofs.acts.synch_exit.Goals as goal

pub leave-requires-clause-hand : goal.leave-requires-clause-hand
leave-requires-clause-hand g c = (at g.R.Resident c.args.sq.now g.N.Notes.note c.args.owner c.turn-turn.result c.requires c.turn-turn.ensures).left

pub leave-requires-clause-resident : goal.leave-requires-clause-resident
leave-requires-clause-resident g c = (at g.R.Resident c.args.sq.now g.N.Notes.note c.args.owner c.turn-turn.result c.requires c.turn-turn.ensures).resident

pub leave-requires-clause-may : goal.leave-requires-clause-may
leave-requires-clause-may g c = exits g.R.Resident c.args.sq.now g.N.Notes.note c.args.owner c.turn-turn.result c.requires c.turn-turn.ensures

pub returns-clause-left : goal.returns-clause-left
returns-clause-left g c = left_by g.R.Resident c.args.sq.now g.N.Notes.note c.args.owner c.turn-turn.result c.requires c.turn-turn.ensures c.leave.result c.leave.ensures

pub returns-clause-goes_on : goal.returns-clause-goes_on
returns-clause-goes_on g c =
    marked_on g.R.Resident.limits c.args.sq.now c.args.owner.pass c.leave.result c.turn-turn.result (left_by_pass c.turn-turn.result.number (length c.args.owner.hand.left) c.args.owner.act g.N.Notes.note) c.turn-turn.ensures
    (exits g.R.Resident c.args.sq.now g.N.Notes.note c.args.owner c.turn-turn.result c.requires c.turn-turn.ensures) c.leave.ensures

pub returns-clause-idle : goal.returns-clause-idle
returns-clause-idle g c = idle_again g.R.Resident c.args.sq.now g.N.Notes.note c.args.owner c.turn-turn.result c.requires c.turn-turn.ensures c.leave.result c.leave.ensures

pub returns-clause-taken : goal.returns-clause-taken
returns-clause-taken g c = taken_acts g.R.Resident c.args.sq.now g.N.Notes.note c.args.owner c.turn-turn.result c.requires c.turn-turn.ensures c.leave.result c.leave.ensures
