-- What the worker does.
use Rattle.std.specs.Prelude.{◌≡◌, true, ℕ, List, [], ◌∷◌, ◌++◌}
use Rattle.turn_gate.specs.Passes.{number, seen}
use Rattle.turn_gate.specs.declared.pass.Pass.{Pass}
use Rattle.perimeter_core.specs.declared.marks.Own.TheVariants.{Free}
use Rattle.perimeter_core.specs.Perimeter.{State}
use Rattle.perimeter_core.specs.History.{Element, Setting, Limits, pass_of, run}
use Rattle.squeue_state.specs.Naming.{Named, setting_of}
use Rattle.squeue_drain.specs.Draining.{GoesOn, LeavesNothing}

-- wherever a mark of p among these elements leaves, it leaves nothing; they stand behind the past
abbrev pub OnlyLeavesNothing : Setting → ℕ → List Element → List Element → Type 0
OnlyLeavesNothing S p past [] = Unit {0}
OnlyLeavesNothing S p past (e ∷ K) = (pass_of e.mark ≡ p → LeavesNothing (run S past) e.mark) × OnlyLeavesNothing S p (past ++ e ∷ []) K

-- something waits for the worker: nobody has the perimeter, and a wake is recorded
abbrev pub SomethingWaits : State → Type 0
SomethingWaits s = (s.own ≡ Free) × (s.wake ≡ true)

-- The pass has gone on. Wherever it left, it left nothing of its hand, in a turn that found nothing queued. And by what it has
-- seen in the end nothing waits: so a turn that found something waiting for the worker was followed by Work, and the last turn
-- was one without a mark only where it found nothing
pub record Worked {R : Type 0} (limits : R → Limits) (s : Named R) (from to : Pass Element) : Type 0 where
  pub goes_on : GoesOn limits s from to
  pub since : List Element
  pub now_seen : seen to ≡ seen from ++ since
  pub leaves : OnlyLeavesNothing (setting_of limits s.given) (number from) (seen from) since
  pub nothing_waits : ¬ SomethingWaits (run (setting_of limits s.given) (seen to))
