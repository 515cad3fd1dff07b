use Rattle.worked_runs.proofs.Moved.{is_served}
use Rattle.worked_runs.proofs.laws.there_is_a_run_with_a_move.Goals as goal

pub returns : goal.returns
returns c = λ file counts t x y.
    let out = c.a_history_with_an_out_fits.ensures in
    let came = c.a_history_with_an_in_fits.ensures in
    is_served file counts t x y out.legal out.over out.keeps (out.set file counts t x y) came.legal came.over came.keeps (came.set file counts t x y)
    out.passes came.passes
