use Rattle.trace_lines.proofs.MarkLines.{grant_fails, grant_fails_later, grant_found}
use Rattle.trace_lines.proofs.marks.grant.Goals as goal

pub returns-in_default : goal.returns-in_default
returns-in_default c = grant_fails c.args.text.now c.in_default.ensures

pub returns-in_default-number_to : goal.returns-in_default-number_to
returns-in_default-number_to c =
    grant_fails_later c.args.text.now c.in-Some.found.0 c.in-Some.found.1.now c.in-Some.ensures.0 c.in-Some.ensures.1 c.in-Some.ensures.2 c.in_default-number_to.ensures

pub returns : goal.returns
returns c =
    grant_found c.args.text.now c.in-Some.found.0 c.in-Some.found.1.now c.in-Some-number_to.others.now c.in-Some-number_to.left c.in-Some.ensures.0 c.in-Some.ensures.1 c.in-Some.ensures.2
    c.in-Some-number_to.ensures.0 c.in-Some-number_to.ensures.1
