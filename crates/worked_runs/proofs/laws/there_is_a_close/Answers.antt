use Rattle.worked_runs.proofs.OneClose.{has_closed, not_fed}
use Rattle.worked_runs.proofs.laws.there_is_a_close.Goals as goal

pub returns-clause-closed : goal.returns-clause-closed
returns-clause-closed g c = λ o stay vacant item from input is. has_closed g.X.Steps.begins g.X.Steps.step o stay vacant item from input is

pub returns-clause-refused : goal.returns-clause-refused
returns-clause-refused g c = λ o stay vacant item from input is closed. not_fed g.X.Steps.begins g.X.Steps.step o stay vacant item from input is closed
