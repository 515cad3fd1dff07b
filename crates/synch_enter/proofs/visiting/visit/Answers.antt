use Rattle.std.proofs.Common.{ℕ, [], subst, length}
use Rattle.turn_gate.specs.Passes.{seen}
use Rattle.perimeter_core.specs.Perimeter.{Idle}
use Rattle.perimeter_core.specs.History.{run}
use Rattle.squeue_state.specs.Naming.{setting_of}
use Rattle.histories.specs.Elements.{left_by_pass}
use Rattle.squeue_drain.proofs.Deciding.{marked_on}
use Rattle.synch_enter.proofs.Exiting.{at, exits, idle_again}
use Rattle.synch_enter.proofs.NothingDone.{asked_once, both_on, stands_for_some, stands_now, still}
use Rattle.synch_enter.proofs.visiting.visit.Goals as goal

pub visit-seen-requires : goal.visit-seen-requires
visit-seen-requires g c = record { some = stands_for_some g.R.Resident c.args.sq.now c.synch_enter-owner.result c.synch_enter-owner.ensures.owner }

pub leave-requires-clause-hand : goal.leave-requires-clause-hand
leave-requires-clause-hand g c = (at g.R.Resident c.args.sq.now [] c.synch_enter-owner.result c.turn-turn.result c.synch_enter-owner.ensures.owner c.turn-turn.ensures).left

pub leave-requires-clause-resident : goal.leave-requires-clause-resident
leave-requires-clause-resident g c =
    let v = c.visit-seen.ensures in
    still g.R.Resident c.args.sq.now.given v.stands v.limits v.size v.origin (at g.R.Resident c.args.sq.now [] c.synch_enter-owner.result c.turn-turn.result c.synch_enter-owner.ensures.owner c.turn-turn.ensures).resident

pub leave-requires-clause-may : goal.leave-requires-clause-may
leave-requires-clause-may g c = exits g.R.Resident c.args.sq.now [] c.synch_enter-owner.result c.turn-turn.result c.synch_enter-owner.ensures.owner c.turn-turn.ensures

pub returns-clause-goes_on : goal.returns-clause-goes_on
returns-clause-goes_on g c =
    let o = c.synch_enter-owner.result in
    let u = c.turn-turn.result in
    both_on g.R.Resident.limits c.args.sq.now c.args.pass o.pass c.leave.result c.synch_enter-owner.ensures.came.goes_on
    (marked_on g.R.Resident.limits c.args.sq.now o.pass c.leave.result u (left_by_pass u.number (length o.hand.left) o.act []) c.turn-turn.ensures
    (exits g.R.Resident c.args.sq.now [] o u c.synch_enter-owner.ensures.owner c.turn-turn.ensures) c.leave.ensures)

pub returns-clause-seen : goal.returns-clause-seen
returns-clause-seen g c =
    let v = c.visit-seen.ensures in
    let stood = stands_now g.R.Resident c.args.sq.now c.synch_enter-owner.result c.turn-turn.result c.leave.result c.synch_enter-owner.ensures.owner c.turn-turn.ensures c.leave.ensures in
    record {
      found = c.synch_enter-owner.result.resident;
      left = c.visit-seen.new.resident;
      stood = stood;
      stands = still g.R.Resident c.args.sq.now.given v.stands v.limits v.size v.origin stood;
      does = v.does;
    }

pub returns-clause-idle : goal.returns-clause-idle
returns-clause-idle g c =
    subst (λ (k : ℕ). Idle (run (setting_of g.R.Resident.limits c.args.sq.now.given) (seen c.leave.result)) k) c.synch_enter-owner.ensures.came.goes_on.same_number
    (idle_again g.R.Resident c.args.sq.now [] c.synch_enter-owner.result c.turn-turn.result c.synch_enter-owner.ensures.owner c.turn-turn.ensures c.leave.result c.leave.ensures)

pub returns-clause-asks : goal.returns-clause-asks
returns-clause-asks g c =
    asked_once g.R.Resident c.args.sq.now c.synch_enter-owner.result c.turn-turn.result c.leave.result c.synch_enter-owner.ensures.owner c.turn-turn.ensures c.leave.ensures
    c.args.pass c.requires.may.pass c.synch_enter-owner.ensures.came
