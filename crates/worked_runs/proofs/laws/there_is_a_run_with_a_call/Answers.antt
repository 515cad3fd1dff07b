use Rattle.worked_runs.proofs.TracedRun.{was_served}
use Rattle.worked_runs.proofs.laws.there_is_a_run_with_a_call.Goals as goal

pub returns : goal.returns
returns c = let h = c.a_history_with_a_call_between_fits.ensures in was_served h.legal h.over h.keeps h.set h.passes
