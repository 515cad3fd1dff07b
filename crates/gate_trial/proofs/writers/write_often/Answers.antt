use Rattle.std.proofs.Common.{rules, ◌≡◌, ◌+◌, arith}
use Rattle.turn_gate.specs.Passes.{turns_of, steps}
use Rattle.gate_trial.proofs.Turns.{one_turn}
use Rattle.gate_trial.proofs.writers.write_often.Goals as goal

pub loop-nth-preserved : goal.loop-nth-preserved
loop-nth-preserved g c =
    let one : turns_of (steps c.write-pass.result) ≡ turns_of (steps c.loop-nth.pass) + 1 = one_turn _ _ _ c.hold-held.ensures.steps c.write-pass.ensures.steps in
    (search rules, search rules, omega (arith, one, c.loop-nth.invariant.2))
