use Rattle.chargen_service.proofs.GeneratingLemmas.{offers-the-pattern, offers-little}
use Rattle.chargen_service.proofs.laws.the_pattern_is_offered.Goals as goal

pub returns-clause-offered : goal.returns-clause-offered
returns-clause-offered c = offers-the-pattern

pub returns-clause-most : goal.returns-clause-most
returns-clause-most c = offers-little
