use Rattle.std.proofs.Common.{length}
use Rattle.squeue_enter.proofs.Entries.{may_fill}
use Rattle.squeue_enter.proofs.Answering.{has_filled}
use Rattle.squeue_enter.proofs.Bringing.{brought_filled, goes_on_filled, was_full, brought_none, goes_on_none}
use Rattle.squeue_enter.proofs.entering.fill_or_full.Goals as goal

pub fill-requires-clause-may : goal.fill-requires-clause-may
fill-requires-clause-may g c = may_fill g.R.Resident.limits c.args.sq.now c.args.pass c.args.chain.now c.turn-turn.result c.requires.may c.turn-turn.ensures c.requires.some

pub returns-then-fits-clause-filled : goal.returns-then-fits-clause-filled
returns-then-fits-clause-filled g c = has_filled g.R.Resident.limits c.args.sq.now c.args.pass c.args.chain.now c.turn-turn.result c.requires.may c.turn-turn.ensures c.requires.some c.fill.result c.fill.ensures

pub returns-then-fits-clause-brought : goal.returns-then-fits-clause-brought
returns-then-fits-clause-brought g c = brought_filled c.requires.may.pass (returns-then-fits-clause-filled g c)

pub returns-then-fits-clause-more : goal.returns-then-fits-clause-more
returns-then-fits-clause-more g c = goes_on_filled c.requires.may.pass (returns-then-fits-clause-filled g c)

pub returns-else-fits-clause-full : goal.returns-else-fits-clause-full
returns-else-fits-clause-full g c = was_full c.requires.may c.turn-turn.ensures c.plain.ensures (length c.args.chain.now) (c.fits.ensures.full c.if-fits.false)

pub returns-else-fits-clause-brought : goal.returns-else-fits-clause-brought
returns-else-fits-clause-brought g c = brought_none c.requires.may c.turn-turn.ensures c.plain.ensures

pub returns-else-fits-clause-more : goal.returns-else-fits-clause-more
returns-else-fits-clause-more g c = goes_on_none c.requires.may c.turn-turn.ensures c.plain.ensures
