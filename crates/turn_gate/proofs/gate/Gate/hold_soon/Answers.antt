use Rattle.std.proofs.Common.{rules}
use Rattle.turn_gate.proofs.Passing.{waited_more}
use Rattle.turn_gate.proofs.gate.Gate.hold_soon.Goals as goal

pub returns-in-Ok-clause-steps : goal.returns-in-Ok-clause-steps
returns-in-Ok-clause-steps g c = waited_more _ _ _ c.loop.invariant.1 c.in-Ok.ensures.1

pub loop-preserved : goal.loop-preserved
loop-preserved g c = (search rules, waited_more _ _ _ c.loop.invariant.1 c.in-Err.ensures.1)

pub returns-clause-steps : goal.returns-clause-steps
returns-clause-steps g c = waited_more _ _ _ c.loop.invariant.1 c.hold.ensures.steps
