use Rattle.std.proofs.Common.{arith, ℕ, ◌-◌, List, length, take, Bor}
use Rattle.report_lines.specs.ReportText.{done_line}
use Rattle.trace_lines.proofs.MarkLists.{at_end, no_marks_there, no_more_squeues, not_at_end, other_end, squeues_all, squeues_kept, squeues_more}
use Rattle.trace_lines.proofs.form.histories.Goals as goal

pub returns-in_default : goal.returns-in_default
returns-in_default c = no_more_squeues c.args.text.now c.loop-q.rest.now _ c.loop-q.q c.args.squeues c.loop-q.invariant (omega arith) c.in_default.ensures

pub returns-in_default-2 : goal.returns-in_default-2
returns-in_default-2 c =
    no_marks_there c.args.text.now c.loop-q.rest.now c.in-Some.marks.now _ c.loop-q.q c.args.squeues c.in-Some.count c.loop-q.invariant (omega arith) (omega (arith, c.ranges.squeues.fits)) c.in-Some.ensures
    (rw c.in_default-2.is at c.in_ok-others.ensures)

pub loop-q-preserved : goal.loop-q-preserved
loop-q-preserved c =
    let found = rw c.in-Some-2.is at c.in_ok-others.ensures in
    let marks = c.in-Some.marks.now in
    let others = c.in-Some-2.others.now in
    squeues_kept (λ (r : Bor (List ℕ)). r.now) c.args.text.now others c.loop-q.found.items c.push.new.self.items c.split_at.result.0 (take (length marks - length others) marks) _ c.args.squeues
    c.in_ok-push.ensures.items c.split_at.ensures.front
    (squeues_more c.args.text.now c.loop-q.rest.now marks others _ c.loop-q.q c.args.squeues c.in-Some.count c.loop-q.invariant (omega arith) (omega (arith, c.ranges.squeues.fits)) c.in-Some.ensures found)

pub returns-then-eq : goal.returns-then-eq
returns-then-eq c =
    squeues_all c.args.text.now c.loop-q.rest.now _ c.loop-q.q c.args.squeues c.loop-q.invariant (omega arith) (at_end c.loop-q.rest.now c.as_slice.result.now done_line c.if-eq.ensures c.as_slice.ensures)

pub returns : goal.returns
returns c =
    other_end c.args.text.now c.loop-q.rest.now _ c.loop-q.q c.args.squeues c.loop-q.invariant (omega arith)
    (not_at_end c.loop-q.rest.now c.as_slice.result.now done_line c.if-eq.ensures c.as_slice.ensures)
