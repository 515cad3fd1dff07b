use Rattle.std.proofs.Common.{◌∷◌, [], arith}
use Rattle.squeue_enter.proofs.Entries.{may_fill, fits}
use Rattle.squeue_enter.proofs.Answering.{has_filled}
use Rattle.squeue_enter.proofs.Bringing.{brought_filled, goes_on_filled}
use Rattle.squeue_enter.proofs.entering.try_fill.Goals as goal

pub fill-requires-clause-may : goal.fill-requires-clause-may
fill-requires-clause-may g c = may_fill g.R.Resident.limits c.args.sq.now c.args.pass (c.args.feed ∷ []) c.in-Ok.turn c.requires.may c.in-Ok.ensures.0 (omega arith)

pub fill-requires-clause-room : goal.fill-requires-clause-room
fill-requires-clause-room g c = fits g.R.Resident.limits c.args.sq.now c.args.pass (c.args.feed ∷ []) c.in-Ok.turn c.requires.may c.in-Ok.ensures.0 (omega arith) c.requires.room

pub returns-in-Ok-clause-filled : goal.returns-in-Ok-clause-filled
returns-in-Ok-clause-filled g c = (has_filled g.R.Resident.limits c.args.sq.now c.args.pass (c.args.feed ∷ []) c.in-Ok.turn c.requires.may c.in-Ok.ensures.0 (omega arith) c.fill.result c.fill.ensures, (c.in-Ok.turn.made, c.in-Ok.ensures.1, c.fill.ensures.one_step))

pub returns-in-Ok-clause-brought : goal.returns-in-Ok-clause-brought
returns-in-Ok-clause-brought g c = brought_filled c.requires.may.pass (returns-in-Ok-clause-filled g c).0

pub returns-in-Ok-clause-more : goal.returns-in-Ok-clause-more
returns-in-Ok-clause-more g c = goes_on_filled c.requires.may.pass (returns-in-Ok-clause-filled g c).0
