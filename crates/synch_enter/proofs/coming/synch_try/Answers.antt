use Rattle.std.proofs.Common.{sym, ◌∙◌}
use Rattle.synch_enter.proofs.Asking.{same_here, may_at, not_found, came_for}
use Rattle.synch_enter.proofs.coming.synch_try.Goals as goal

pub returns-then-not-is_here-clause-found : goal.returns-then-not-is_here-clause-found
returns-then-not-is_here-clause-found g c =
    not_found g.R.Resident.limits c.args.sq.now c.args.pass c.turn-turn.result c.plain.result c.args.c c.requires.may c.turn-turn.ensures c.plain.ensures (sym (same_here g.R.Resident.limits c.turn-turn.result.squeue c.args.sq.now c.turn-turn.result.found c.args.c c.is_here.result c.turn-turn.ensures.squeue c.is_here.ensures) ∙ c.if-not-is_here.true)

pub come-requires : goal.come-requires
come-requires g c = may_at g.R.Resident.limits c.args.sq.now c.args.pass c.turn-turn.result c.requires.may c.turn-turn.ensures

pub returns-clause-came : goal.returns-clause-came
returns-clause-came g c =
    came_for g.R.Resident.limits c.args.sq.now c.args.pass c.turn-turn.result c.come.result.pass c.args.c c.requires.may.pass c.turn-turn.ensures c.come.ensures.owner.owns.pass c.come.ensures.owner.owns.legal c.come.ensures.number c.come.ensures.came
    (sym (same_here g.R.Resident.limits c.turn-turn.result.squeue c.args.sq.now c.turn-turn.result.found c.args.c c.is_here.result c.turn-turn.ensures.squeue c.is_here.ensures) ∙ c.if-not-is_here.false)
