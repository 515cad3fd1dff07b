use Rattle.synch_enter.proofs.OneAct.{take_here, take_range, taken}
use Rattle.synch_enter.proofs.acts.take_block.Goals as goal

pub take_out-requires-clause-range : goal.take_out-requires-clause-range
take_out-requires-clause-range g c = take_range g.R.Resident c.requires.0 c.args.owner.now c.args.c c.requires.1

pub take_out-requires-clause-here : goal.take_out-requires-clause-here
take_out-requires-clause-here g c = take_here g.R.Resident c.requires.0 c.args.owner.now c.args.c c.requires.1

pub returns-clause-taken : goal.returns-clause-taken
returns-clause-taken g c = λ s may.
    taken g.R.Resident s c.args.owner.now c.args.c may c.take_out.result c.take_out.new.self
    (record { same_limits = c.take_out.ensures.limits; same_size = c.take_out.ensures.size; same_origin = c.take_out.ensures.origin })
    c.take_out.ensures.stands c.take_out.ensures.part c.take_out.ensures.owner
