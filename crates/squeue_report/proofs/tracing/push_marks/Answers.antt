use Rattle.std.proofs.Common.{◌<◌, length, arith, sym}
use Rattle.squeue_state.specs.Told.{mark_of, marks_of}
use Rattle.report_lines.specs.TraceText.{mark_line}
use Rattle.report_lines.proofs.Lines.{line_more}
use Rattle.squeue_report.proofs.Marked.{there, there_as}
use Rattle.text_digits.proofs.Joins.{more_none}
use Rattle.squeue_report.proofs.tracing.push_marks.Goals as goal

pub loop-i-init : goal.loop-i-init
loop-i-init g c = sym (more_none _)

pub push_mark-requires-clause-countable : goal.push_mark-requires-clause-countable
push_mark-requires-clause-countable g c =
    let marks = c.args.trace.now.marks in
    let within : c.loop-i.i < length marks = omega (arith, c.loop-i-test.true, c.len-i-end.ensures) in
    c.requires c.loop-i.i c.mark.result (there marks c.loop-i.i c.mark.result within c.mark.ensures.mark)

pub loop-i-preserved : goal.loop-i-preserved
loop-i-preserved g c =
    let t = c.args.trace.now in
    let within : c.loop-i.i < length t.marks = omega (arith, c.loop-i-test.true, c.len-i-end.ensures) in
    line_more mark_line _ _ _ (marks_of t) c.loop-i.i (mark_of t.entries c.mark.result) c.loop-i.invariant
    (there_as (mark_of t.entries) t.marks c.loop-i.i c.mark.result within c.mark.ensures.mark) c.in_ok-push_mark.ensures
