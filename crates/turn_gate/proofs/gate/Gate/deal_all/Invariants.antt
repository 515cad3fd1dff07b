use Rattle.std.proofs.Common.{◌≡◌, ◌≤◌, ◌-◌, [], length}
use Rattle.std.specs.Prelude.{vec_capacity}
use Rattle.turn_gate.specs.Gates.{gate_id}
use Rattle.turn_gate.specs.Passes.{AreFresh}
use Rattle.turn_gate.specs.Rule.{dealer}
use Rattle.turn_gate.proofs.gate.Gate.deal_all.Given as goal

abbrev pub invariant-loop-k : goal.invariant-loop-k
invariant-loop-k g l = (l.seat.table_id ≡ gate_id l.self) × (l.seat.me ≡ (dealer l.k (l.passes - l.k), [])) × (length l.all.items ≡ l.k) × AreFresh g.T.Storied.number (gate_id l.self) 0 l.all.items
    × (l.passes ≤ vec_capacity l.all)
