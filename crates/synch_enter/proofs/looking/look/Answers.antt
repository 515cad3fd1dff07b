use Rattle.synch_enter.proofs.looking.look.Goals as goal

pub returns-clause-seen : goal.returns-clause-seen
returns-clause-seen g c = let v = c.visit.ensures.seen in record { resident = v.found; stands = v.stood; says = v.does }
