use Rattle.std.proofs.Common.{drop}
use Rattle.trace_lines.proofs.Filled.{IsRead}
use Rattle.trace_lines.proofs.forms.by_form.Given as goal

abbrev pub invariant-loop-b : goal.invariant-loop-b
invariant-loop-b g l = IsRead l.fn.text l.form (drop l.b-index l.form) l.numbers l.rest l.count g.row.N
