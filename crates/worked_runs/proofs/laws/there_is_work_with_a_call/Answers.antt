use Rattle.worked_runs.proofs.OneCall.{have_had, was_done}
use Rattle.worked_runs.proofs.laws.there_is_work_with_a_call.Goals as goal

pub returns-clause-done : goal.returns-clause-done
returns-clause-done g c = λ shared first last new part are.
    let h = c.a_history_with_a_call_fits.ensures in was_done g.S.Parts shared first last new part are h.legal h.over h.keeps h.passes

pub returns-clause-had : goal.returns-clause-had
returns-clause-had g c = λ shared first last new part are.
    let h = c.a_history_with_a_call_fits.ensures in have_had g.S.Parts shared first last new part are h.legal h.over h.keeps h.passes
