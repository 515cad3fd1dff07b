use Rattle.worked_runs.proofs.OneArrival.{has_arrived, not_lost, was_seen}
use Rattle.worked_runs.proofs.laws.there_is_work_that_arrives.Goals as goal

pub returns-clause-served : goal.returns-clause-served
returns-clause-served g c = λ work source left key item from to gave state parts.
    has_arrived g.X.KeySteps.begins g.X.KeySteps.step g.A.Arrivals.origin g.A.Arrivals.given g.A.Arrivals.is_over work source left key item gave from to state parts
    c.a_history_of_one_arrival_fits.ensures.legal c.a_history_of_one_arrival_fits.ensures.over

pub returns-clause-refused : goal.returns-clause-refused
returns-clause-refused g c = λ work source left key item gave none is.
    not_lost g.X.KeySteps.begins g.X.KeySteps.step g.A.Arrivals.origin g.A.Arrivals.given g.A.Arrivals.is_over work source left key item gave none is

pub returns-clause-seen : goal.returns-clause-seen
returns-clause-seen g c = λ work stream item from is.
    was_seen g.X.KeySteps.begins g.X.KeySteps.step work stream item from is c.a_history_of_one_arrival_fits.ensures.looked
