use Rattle.trace_lines.proofs.MarkLines.{leave_fails, leave_fails_later, leave_fails_last, leave_found}
use Rattle.trace_lines.proofs.marks.leave.Goals as goal

pub returns-in_default : goal.returns-in_default
returns-in_default c = leave_fails c.args.text.now c.in_default.ensures

pub returns-in_default-number_to : goal.returns-in_default-number_to
returns-in_default-number_to c = leave_fails_later c.args.text.now c.in-Some.rest.now c.in-Some.p c.in-Some.ensures c.in_default-number_to.ensures

pub returns-in_default-act : goal.returns-in_default-act
returns-in_default-act c =
    leave_fails_last c.args.text.now c.in-Some.rest.now c.in-Some-number_to.others.now c.in-Some.p c.in-Some-number_to.left c.in-Some.ensures c.in-Some-number_to.ensures c.in_default-act.ensures

pub returns : goal.returns
returns c =
    leave_found c.args.text.now c.in-Some.rest.now c.in-Some-number_to.others.now c.in-Some-act.behind.now c.in-Some.p c.in-Some-number_to.left c.in-Some-act.done
    c.in-Some.ensures c.in-Some-number_to.ensures c.in-Some-act.ensures
