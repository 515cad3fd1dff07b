use Rattle.worked_runs.proofs.OneLook.{has_looked, no_empty}
use Rattle.worked_runs.proofs.laws.there_is_a_look.Goals as goal

pub returns-clause-seen : goal.returns-clause-seen
returns-clause-seen g c = λ s r part from to is. has_looked g.S.Parts s r part from to is c.a_history_with_a_look_fits.ensures.legal

pub returns-clause-refused : goal.returns-clause-refused
returns-clause-refused g c = λ s r part from to is looked. no_empty g.S.Parts s r part from to is looked
