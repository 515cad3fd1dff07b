use Rattle.squeue_enter.proofs.Bringing.{brought, goes_on}
use Rattle.squeue_enter.proofs.ByWay.{feeds_fit}
use Rattle.squeue_enter.proofs.entering.enter.Goals as goal

pub enter_in-requires-clause-turn : goal.enter_in-requires-clause-turn
enter_in-requires-clause-turn g c = (c.args.pass, record { found = c.turn-turn.ensures; may = c.requires.may })

pub enter_in-requires-clause-room : goal.enter_in-requires-clause-room
enter_in-requires-clause-room g c = feeds_fit c.requires.may c.turn-turn.ensures c.requires.some c.requires.room

pub returns-clause-entered : goal.returns-clause-entered
returns-clause-entered g c = c.enter_in.ensures c.args.pass record { found = c.turn-turn.ensures; may = c.requires.may }

pub returns-clause-brought : goal.returns-clause-brought
returns-clause-brought g c = brought c.requires.may.pass (returns-clause-entered g c)

pub returns-clause-more : goal.returns-clause-more
returns-clause-more g c = goes_on c.requires.may.pass (returns-clause-entered g c)
