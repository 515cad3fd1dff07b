use Rattle.worked_runs.proofs.TracedRun.{accepts, has_ran}
use Rattle.worked_runs.proofs.laws.there_is_a_traced_run.Goals as goal

pub returns-clause-ran : goal.returns-clause-ran
returns-clause-ran c = let h = c.a_history_with_a_call_between_fits.ensures in has_ran h.legal h.over h.keeps h.set h.passes

pub returns-clause-accepted : goal.returns-clause-accepted
returns-clause-accepted c = accepts
