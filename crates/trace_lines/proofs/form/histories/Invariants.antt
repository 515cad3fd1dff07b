use Rattle.std.proofs.Common.{map}
use Rattle.trace_lines.proofs.MarkLists.{SqueuesRead}
use Rattle.trace_lines.proofs.form.histories.Given as goal

abbrev pub invariant-loop-q : goal.invariant-loop-q
invariant-loop-q l = SqueuesRead l.fn.text l.rest (map (λ r. r.now) l.found.items) l.q l.fn.squeues
