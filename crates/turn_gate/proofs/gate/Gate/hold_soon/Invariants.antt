use Rattle.turn_gate.specs.Gates.{gate_id}
use Rattle.turn_gate.specs.Passes.{IsReturned, steps, waited}
use Rattle.turn_gate.proofs.gate.Gate.hold_soon.Given as goal

-- the pass is back, and knows no more than it did
abbrev pub invariant-loop : goal.invariant-loop
invariant-loop g l = IsReturned g.T.Storied.number (gate_id l.self) l.fn.pass l.pass × waited (steps l.fn.pass) (steps l.pass)
