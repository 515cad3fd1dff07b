use Rattle.std.proofs.Common.{◌≤◌, length, map, ap, sym, ◌∙◌, arith}
use Rattle.std.specs.Option.{option_map}
use Rattle.std.proofs.lemmas.List.{length-map}
use Rattle.std.proofs.lemmas.Option.{slice_get-map}
use Rattle.squeue_state.specs.Told.{marks_of}
use Rattle.report_lines.specs.TraceText.{squeue_text}
use Rattle.report_lines.proofs.Lines.{line_more}
use Rattle.squeue_report.proofs.Marked.{numbered, numbered_all}
use Rattle.squeue_report.proofs.WholeTexts.{trace_told}
use Rattle.text_digits.proofs.Joins.{more_none}
use Rattle.squeue_report.proofs.tracing.push_report2.Goals as goal

pub loop-q-init : goal.loop-q-init
loop-q-init g c = sym (more_none _)

pub push_squeue-requires : goal.push_squeue-requires
push_squeue-requires g c = c.requires.countable c.loop-q.q c.trace.result.now c.trace.ensures

pub loop-q-preserved : goal.loop-q-preserved
loop-q-preserved g c =
    let traces = c.args.served.now.traces in
    let q = c.loop-q.q in
    let trace = c.trace.result.now in
    let there = slice_get-map marks_of traces q ∙ ap (option_map marks_of) c.trace.ensures in
    line_more squeue_text _ _ _ _ q (q, marks_of trace) c.loop-q.invariant (numbered (map marks_of traces) 0 q q (marks_of trace) (omega arith) there) c.in_ok-push_squeue.ensures

pub returns : goal.returns
returns g c =
    let traces = c.args.served.now.traces in
    let past : length (map marks_of traces) ≤ c.loop-q.q = omega (arith, length-map traces marks_of, c.requires.traces, c.loop-q-test.false) in
    trace_told c.args.plan.now c.args.calls.now c.args.setup.now c.args.rules c.args.served.now.blocks (map marks_of traces) _ _ _ _ _ _ _ c.in_ok-put.ensures.told
    c.in_ok-push_body.ensures c.in_ok-push_setup.ensures c.in_ok-push_calls.ensures
    (numbered_all squeue_text (map marks_of traces) _ _ c.loop-q.q past c.loop-q.invariant) c.in_ok-put-2.ensures.told
