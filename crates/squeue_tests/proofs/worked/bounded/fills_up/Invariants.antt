use Rattle.std.proofs.Common.{◌≡◌, ◌-◌}
use Rattle.turn_gate.specs.Passes.{number}
use Rattle.perimeter_trial.specs.Logging.{limits_of}
use Rattle.squeue_enter.specs.Entering.{MayEnter}
use Rattle.squeue_tests.specs.Rows.{in_order}
use Rattle.squeue_tests.proofs.worked.bounded.fills_up.Given as goal

abbrev pub invariant-loop-n : goal.invariant-loop-n
invariant-loop-n g l = record { number : number l.pass ≡ number l.fn.pass; may : MayEnter limits_of l.squeue l.pass (in_order 0 l.n (20 - l.n)) }
