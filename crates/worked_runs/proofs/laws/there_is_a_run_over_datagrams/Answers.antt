use Rattle.worked_runs.proofs.DatagramRun.{accepts, has_ran, has_served}
use Rattle.worked_runs.proofs.laws.there_is_a_run_over_datagrams.Goals as goal

pub returns-clause-ran : goal.returns-clause-ran
returns-clause-ran c = has_ran

pub returns-clause-accepted : goal.returns-clause-accepted
returns-clause-accepted c = accepts

pub returns-clause-served : goal.returns-clause-served
returns-clause-served c = let h = c.a_history_of_one_feed_fits.ensures in has_served h.legal h.over h.keeps h.passes
