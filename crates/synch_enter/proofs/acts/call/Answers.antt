use Rattle.std.proofs.Common.{◌∙◌, sym}
use Rattle.synch_enter.proofs.OneAct.{call_range, call_known, call_here, called, elsewhere}
use Rattle.synch_enter.proofs.acts.call.Goals as goal

pub is_here-requires : goal.is_here-requires
is_here-requires g c = call_range g.R.Resident c.requires.0 c.args.owner.now c.args.c c.args.j c.args.k c.requires.1 (g.met.R.Resident.limits_in_range c.args.owner.now.resident)

pub call-requires-clause-range : goal.call-requires-clause-range
call-requires-clause-range g c = call_range g.R.Resident c.requires.0 c.args.owner.now c.args.c c.args.j c.args.k c.requires.1 (g.met.R.Resident.limits_in_range c.args.owner.now.resident)

pub call-requires-clause-here : goal.call-requires-clause-here
call-requires-clause-here g c = call_here g.R.Resident c.requires.0 c.args.owner.now c.args.c c.args.j c.args.k c.requires.1 (λ blocks stands. sym c.if-is_here.true ∙ c.is_here.ensures blocks stands)

pub call-requires-clause-exists : goal.call-requires-clause-exists
call-requires-clause-exists g c = call_known g.R.Resident c.requires.0 c.args.owner.now c.args.c c.args.j c.args.k c.requires.1

pub returns-then-is_here-clause-called : goal.returns-then-is_here-clause-called
returns-then-is_here-clause-called g c = λ s may.
    called g.R.Resident s c.args.owner.now c.args.c c.args.j c.args.k may c.call.new.self
    (record { same_limits = c.call.ensures.limits; same_size = c.call.ensures.size; same_origin = c.call.ensures.origin })
    (λ blocks stands. sym c.if-is_here.true ∙ c.is_here.ensures blocks stands) c.call.ensures.stands

pub returns-else-is_here-clause-called : goal.returns-else-is_here-clause-called
returns-else-is_here-clause-called g c = λ s may.
    elsewhere g.R.Resident s c.args.owner.now c.args.c c.args.j c.args.k may (λ blocks stands. sym c.if-is_here.false ∙ c.is_here.ensures blocks stands)
