-- When histories fit a run: what is so whatever its plan is.
use Rattle.std.specs.Prelude.{◌≡◌, ◌≢◌, ℕ, ◌<◌, true, false, List, Some, slice_get}
use Rattle.perimeter_core.specs.declared.entries.Act.{Act}
use Rattle.perimeter_core.specs.Perimeter.{is_here}
use Rattle.perimeter_core.specs.History.{Setting, run}
use Rattle.perimeter_core.specs.Deeds.{acts}
use Rattle.histories.specs.declared.mode.Mode.{Mode}
use Rattle.histories.specs.Endings.{Ending, HasEnded}
use Rattle.histories.specs.Keeping.{KeepsPace}

-- connection c is here after the history of one squeue, which did these acts to its block, and after no other
pub record IsHereOnce (hs : List Ending) (c : ℕ) (done : List Act) : Type 0 where
  pub squeue : ℕ
  pub end : Ending
  pub is_end : slice_get hs squeue ≡ Some end
  pub here : is_here (run end.setting end.history) c ≡ true
  pub acts_are : done ≡ acts end.setting end.history c
  pub nowhere_else : (q : ℕ) (e : Ending) → q ≢ squeue → slice_get hs q ≡ Some e → is_here (run e.setting e.history) c ≡ false

-- The history of squeue q has this setting, is legal, and has ended: all passes but the worker's are closed, nobody has the perimeter,
-- and nothing is queued; its rings kept the homes, the mode and the budget
pub record EndFits (squeues spread : ℕ) (mode : Mode) (budget rings q : ℕ) (S : Setting) (e : Ending) : Type 0 where
  pub number : e.number ≡ q
  pub setting : e.setting ≡ S
  pub ended : HasEnded e
  pub keeps : (r : ℕ) → r < rings → KeepsPace squeues spread mode budget q e.setting r e.history
