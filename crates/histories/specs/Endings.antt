-- A squeue that has ended, by its history.
use Rattle.std.specs.Prelude.{ℕ, List}
use Rattle.perimeter_core.specs.History.{Element, Setting, run}
use Rattle.perimeter_core.specs.Legal.{Legal}
use Rattle.perimeter_core.specs.Ending.{IsOver}

-- a squeue that has ended: its number, its setting and its history
pub record Ending : Type 0 where
  pub number : ℕ
  pub setting : Setting
  pub history : List Element

-- the history is legal, and nothing may follow
pub record HasEnded (e : Ending) : Type 0 where
  pub legal : Legal e.setting e.history
  pub over : IsOver e.setting (run e.setting e.history)
