use Rattle.worked_runs.proofs.Witness.{is_served}
use Rattle.worked_runs.proofs.laws.there_is_a_run.Goals as goal

pub returns : goal.returns
returns c = λ file counts t x y. is_served file counts t x y c.a_history_fits.ensures.legal c.a_history_fits.ensures.over c.a_history_fits.ensures.keeps (c.a_history_fits.ensures.set file counts t x y) c.a_history_fits.ensures.passes
