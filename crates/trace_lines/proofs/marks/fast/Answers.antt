use Rattle.trace_lines.proofs.MarkLines.{fast_fails, fast_found}
use Rattle.trace_lines.proofs.marks.fast.Goals as goal

pub returns-in_default : goal.returns-in_default
returns-in_default c = fast_fails c.args.text.now c.in_default.ensures

pub returns : goal.returns
returns c = fast_found c.args.text.now c.in-Some.found.0 c.in-Some.found.1.now c.in-Some.ensures.0 c.in-Some.ensures.1 c.in-Some.ensures.2
