use Rattle.std.proofs.Common.{rules}
use Rattle.turn_gate.proofs.Passing.{waited_more}
use Rattle.turn_gate.proofs.gate.Gate.attempts.Goals as goal

pub returns-in-Ok : goal.returns-in-Ok
returns-in-Ok g c = (search rules, waited_more _ _ _ c.loop-k.invariant.1 c.in-Ok.ensures.1)

pub loop-k-preserved : goal.loop-k-preserved
loop-k-preserved g c = (search rules, waited_more _ _ _ c.loop-k.invariant.1 c.in-Err.ensures.1)
