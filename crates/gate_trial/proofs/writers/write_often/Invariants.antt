use Rattle.std.proofs.Common.{◌≡◌, ◌+◌}
use Rattle.turn_gate.specs.Gates.{gate_id}
use Rattle.turn_gate.specs.Passes.{IsPassOf, turns_of, number, steps}
use Rattle.gate_trial.specs.Diary.{writer}
use Rattle.gate_trial.proofs.writers.write_often.Given as goal

abbrev pub invariant-loop-nth : goal.invariant-loop-nth
invariant-loop-nth g l = IsPassOf writer (gate_id l.gate) l.pass × (number l.pass ≡ number l.fn.pass) × (turns_of (steps l.pass) ≡ turns_of (steps l.fn.pass) + l.nth)
