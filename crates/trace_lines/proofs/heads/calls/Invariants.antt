use Rattle.trace_lines.proofs.CallsRead.{CallsRead}
use Rattle.trace_lines.proofs.heads.calls.Given as goal

abbrev pub invariant-loop : goal.invariant-loop
invariant-loop l = CallsRead l.fn.text l.fn.conns l.calls l.rest l.last l.counter
