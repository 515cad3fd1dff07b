use Rattle.std.proofs.Common.{◌≡◌}
use Rattle.turn_gate.specs.Gates.{gate_id}
use Rattle.turn_gate.specs.Passes.{IsPassOf, number}
use Rattle.squeue_bench.specs.Tally.{taker}
use Rattle.squeue_bench.proofs.tally.Tally.take_turns.Given as goal

abbrev pub invariant-loop : goal.invariant-loop
invariant-loop g l = IsPassOf taker (gate_id l.gate) l.pass × (number l.pass ≡ number l.fn.pass)
