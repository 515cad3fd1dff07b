use Rattle.std.proofs.Common.{sym, ◌∙◌}
use Rattle.squeue_state.specs.Naming.{setting_of}
use Rattle.perimeter_core.specs.History.{run}
use Rattle.perimeter_core.proofs.OrderAndWake.{free_is}
use Rattle.synch_enter.proofs.Asking.{same_free, may_ask, open_asked, came_asked}
use Rattle.synch_enter.proofs.coming.come.Goals as goal

pub claim-requires-clause-free : goal.claim-requires-clause-free
claim-requires-clause-free g c = free_is (run (setting_of g.R.Resident.limits c.args.sq.now.given) c.args.turn.found).own (sym (same_free g.R.Resident.limits c.args.turn.squeue c.args.sq.now c.args.turn.found c.own.result c.is_free.result c.requires.squeue c.own.ensures c.is_free.ensures) ∙ c.if-is_free.true)

pub ask-requires-clause-may : goal.ask-requires-clause-may
ask-requires-clause-may g c = may_ask g.R.Resident.limits c.args.sq.now c.args.turn c.requires (sym (same_free g.R.Resident.limits c.args.turn.squeue c.args.sq.now c.args.turn.found c.own.result c.is_free.result c.requires.squeue c.own.ensures c.is_free.ensures) ∙ c.if-is_free.false)

pub wait_for_grant-requires-clause-open_pass : goal.wait_for_grant-requires-clause-open_pass
wait_for_grant-requires-clause-open_pass g c = open_asked g.R.Resident.limits c.args.sq.now c.args.turn c.requires c.ask.result c.ask.ensures

pub returns-else-is_free-clause-came : goal.returns-else-is_free-clause-came
returns-else-is_free-clause-came g c =
    came_asked g.R.Resident.limits c.args.sq.now c.args.turn c.requires c.ask.result c.wait_for_grant.result.pass (sym (same_free g.R.Resident.limits c.args.turn.squeue c.args.sq.now c.args.turn.found c.own.result c.is_free.result c.requires.squeue c.own.ensures c.is_free.ensures) ∙ c.if-is_free.false) c.ask.ensures c.wait_for_grant.ensures.grows c.wait_for_grant.ensures.mine
