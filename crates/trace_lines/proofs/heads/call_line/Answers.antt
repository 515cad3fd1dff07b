use Rattle.trace_lines.proofs.CallLines.{buffer_found, close_found, no_call, status_found, too_large}
use Rattle.trace_lines.proofs.heads.call_line.Goals as goal

pub returns-in-Some : goal.returns-in-Some
returns-in-Some c = status_found c.args.text.now c.in-Some.found.0 c.in-Some.found.1.now c.in-Some.ensures.0 c.in-Some.ensures.1 c.in-Some.ensures.2

pub returns-in-Some-by_form : goal.returns-in-Some-by_form
returns-in-Some-by_form c =
    close_found c.args.text.now c.in-Some-by_form.found.0 c.in-Some-by_form.found.1.now c.in-Some-by_form.ensures.0 c.in-Some-by_form.ensures.1 c.in-Some-by_form.ensures.2

pub returns-in_default-by_form-2 : goal.returns-in_default-by_form-2
returns-in_default-by_form-2 c = no_call c.args.text.now c.in_default.ensures c.in_default-by_form.ensures c.in_default-by_form-2.ensures

pub returns-then-numbers-gt-PLAIN_SPACE : goal.returns-then-numbers-gt-PLAIN_SPACE
returns-then-numbers-gt-PLAIN_SPACE c =
    let h = c.in-Some-by_form-2.ensures in
    too_large c.args.text.now c.in-Some-by_form-2.found.0 c.in-Some-by_form-2.found.1.now c.in_default.ensures c.in_default-by_form.ensures h.0 h.1 h.2 c.if-numbers-gt-PLAIN_SPACE.true

pub returns : goal.returns
returns c =
    let h = c.in-Some-by_form-2.ensures in
    buffer_found c.args.text.now c.in-Some-by_form-2.found.0 c.in-Some-by_form-2.found.1.now h.0 h.1 h.2 c.if-numbers-gt-PLAIN_SPACE.false
