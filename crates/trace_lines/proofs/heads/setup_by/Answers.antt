use Rattle.std.proofs.Common.{◌≡◌, false, true}
use Rattle.trace_lines.proofs.HeadLines.{bit_over, out_of_range}
use Rattle.trace_lines.proofs.heads.setup_by.Goals as goal

pub returns-then-not-is_in_range : goal.returns-then-not-is_in_range
returns-then-not-is_in_range c =
    out_of_range c.args.text.now c.args.form.now c.in-Some.found.0 c.in-Some.found.1.now c.requires.form c.requires.blanks c.in-Some.ensures
    (λ h. let never : false ≡ true = c.if-not-is_in_range.ensures.1 h in cc)

pub returns-then-numbers-gt1 : goal.returns-then-numbers-gt1
returns-then-numbers-gt1 c =
    bit_over c.args.text.now c.args.form.now c.in-Some.found.0 c.in-Some.found.1.now c.requires.form c.requires.blanks c.in-Some.ensures c.if-numbers-gt1.true
