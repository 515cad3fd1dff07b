use Rattle.std.proofs.Common.{◌≡◌}
use Rattle.turn_gate.specs.Gates.{gate_id}
use Rattle.turn_gate.specs.Passes.{waited}
use Rattle.turn_gate.specs.Rule.{Stays}
use Rattle.turn_gate.proofs.gate.Gate.look.Given as goal

-- nothing but the steps has changed
abbrev pub invariant-loop : goal.invariant-loop
invariant-loop g l = (l.seat.table_id ≡ gate_id l.self) × Stays l.initial.seat.me l.seat.me × waited l.initial.seat.me.0.steps l.seat.me.0.steps
