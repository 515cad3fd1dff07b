use Rattle.std.proofs.Common.{arith}
use Rattle.perimeter_core.specs.Kinds.{mark_by}
use Rattle.trace_lines.proofs.MarkLists.{marks_all, marks_fail, marks_more}
use Rattle.trace_lines.proofs.form.behind_marks.Goals as goal

pub returns-in_default : goal.returns-in_default
returns-in_default c =
    marks_fail c.args.text.now c.loop-left.rest.now c.loop-left.left c.args.count c.loop-left.invariant (omega arith) (rw c.in_default.is at c.in_ok-others.ensures)

pub loop-left-preserved : goal.loop-left-preserved
loop-left-preserved c =
    let mark = c.read_mark.new.mark in
    let read = rw c.in-Some.is at c.in_ok-others.ensures in
    marks_more c.args.text.now c.loop-left.rest.now c.in-Some.others.now c.loop-left.left c.args.count (mark_by mark.p mark.kind mark.feeds.items) c.loop-left.invariant (omega arith) read.0 read.1

pub returns : goal.returns
returns c = marks_all c.args.text.now c.loop-left.rest.now c.loop-left.left c.args.count c.loop-left.invariant (omega arith)
