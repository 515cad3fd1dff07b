use Rattle.trace_lines.proofs.MarkLists.{MarksRead}
use Rattle.trace_lines.proofs.form.behind_marks.Given as goal

abbrev pub invariant-loop-left : goal.invariant-loop-left
invariant-loop-left l = MarksRead l.fn.text l.rest l.left l.fn.count

abbrev pub decreases-loop-left : goal.decreases-loop-left
decreases-loop-left l = l.left
