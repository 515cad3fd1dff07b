use Rattle.std.proofs.Common.{[], ◌∷◌}
use Rattle.perimeter_trial.specs.Logging.{limits_of}
use Rattle.squeue_tests.specs.Rows.{MayBring}
use Rattle.squeue_tests.proofs.worked.beside.fills_again.Given as goal

abbrev pub invariant-loop : goal.invariant-loop
invariant-loop l = MayBring limits_of l.squeue 1 (record { c = 1; n = 0 } ∷ []) l.pass
