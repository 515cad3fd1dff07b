use Rattle.std.proofs.Common.{length}
use Rattle.squeue_enter.proofs.Bringing.{brought, goes_on, was_full, brought_none, goes_on_none}
use Rattle.squeue_enter.proofs.entering.enter_or_full.Goals as goal

pub enter_in-requires-clause-turn : goal.enter_in-requires-clause-turn
enter_in-requires-clause-turn g c = (c.args.pass, record { found = c.turn-turn.ensures; may = c.requires.may })

pub returns-then-fits-clause-entered : goal.returns-then-fits-clause-entered
returns-then-fits-clause-entered g c = c.enter_in.ensures c.args.pass record { found = c.turn-turn.ensures; may = c.requires.may }

pub returns-then-fits-clause-brought : goal.returns-then-fits-clause-brought
returns-then-fits-clause-brought g c = brought c.requires.may.pass (returns-then-fits-clause-entered g c)

pub returns-then-fits-clause-more : goal.returns-then-fits-clause-more
returns-then-fits-clause-more g c = goes_on c.requires.may.pass (returns-then-fits-clause-entered g c)

pub returns-else-fits-clause-full : goal.returns-else-fits-clause-full
returns-else-fits-clause-full g c = was_full c.requires.may c.turn-turn.ensures c.plain.ensures (length c.args.chain.now) (c.fits.ensures.full c.if-fits.false)

pub returns-else-fits-clause-brought : goal.returns-else-fits-clause-brought
returns-else-fits-clause-brought g c = brought_none c.requires.may c.turn-turn.ensures c.plain.ensures

pub returns-else-fits-clause-more : goal.returns-else-fits-clause-more
returns-else-fits-clause-more g c = goes_on_none c.requires.may c.turn-turn.ensures c.plain.ensures
