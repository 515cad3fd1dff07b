use Rattle.synch_enter.proofs.OneAct.{put_away, put_range, put_of, put}
use Rattle.synch_enter.proofs.acts.put_block.Goals as goal

pub put_in-requires-clause-range : goal.put_in-requires-clause-range
put_in-requires-clause-range g c = put_range g.R.Resident c.requires.0 c.args.owner.now c.args.c c.args.part c.requires.1

pub put_in-requires-clause-away : goal.put_in-requires-clause-away
put_in-requires-clause-away g c = put_away g.R.Resident c.requires.0 c.args.owner.now c.args.c c.args.part c.requires.1

pub put_in-requires-clause-owner : goal.put_in-requires-clause-owner
put_in-requires-clause-owner g c = put_of g.R.Resident c.requires.0 c.args.owner.now c.args.c c.args.part c.requires.1

pub returns-clause-put : goal.returns-clause-put
returns-clause-put g c = λ s note may part.
    put g.R.Resident s c.args.owner.now c.args.c c.args.part may note c.put_in.new.self
    (record { same_limits = c.put_in.ensures.limits; same_size = c.put_in.ensures.size; same_origin = c.put_in.ensures.origin })
    (λ blocks stands. c.put_in.ensures.stands blocks note stands part)
