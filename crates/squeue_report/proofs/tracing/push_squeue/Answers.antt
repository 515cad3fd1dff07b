use Rattle.std.proofs.Common.{sym, ◌∙◌}
use Rattle.std.proofs.lemmas.List.{length-map}
use Rattle.squeue_state.specs.Told.{mark_of, marks_of}
use Rattle.squeue_report.proofs.SqueueTexts.{squeue_told}
use Rattle.squeue_report.proofs.tracing.push_squeue.Goals as goal

pub returns : goal.returns
returns g c =
    let t = c.args.trace.now in
    squeue_told c.args.q c.len.result (marks_of t) _ _ _ (c.len.ensures ∙ sym (length-map t.marks (mark_of t.entries))) c.in_ok-push_heading.ensures c.in_ok-push_marks.ensures
