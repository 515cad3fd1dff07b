use Rattle.worked_runs.proofs.OneKey.{is_served, one_feed_less, was_served}
use Rattle.worked_runs.proofs.laws.there_is_work_by_key.Goals as goal

pub returns-clause-served : goal.returns-clause-served
returns-clause-served g c = λ v first last new part are.
    let h = c.a_history_by_key_fits.ensures in
    (is_served g.S.Parts v first last new part are, was_served g.S.Parts v first last new part are h.legal h.over h.keeps h.passes)

pub returns-clause-refused : goal.returns-clause-refused
returns-clause-refused g c = λ v first last new part are was. one_feed_less g.S.Parts v first last new part are was
