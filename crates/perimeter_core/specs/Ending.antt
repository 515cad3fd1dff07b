-- The end of a history.
use Rattle.std.specs.Prelude.{◌≡◌, ℕ, ◌<◌, true, [], length}
use Rattle.perimeter_core.specs.declared.marks.Own.TheVariants.{Free}
use Rattle.perimeter_core.specs.Perimeter.{State, is_closed}
use Rattle.perimeter_core.specs.History.{Setting}

-- every pass but the worker's is closed, nobody has the perimeter, and nothing is queued
pub record IsOver (S : Setting) (s : State) : Type 0 where
  pub closed : (p : ℕ) → p < length S.quotas → is_closed s p ≡ true
  pub free : s.own ≡ Free
  pub empty : s.chain ≡ []
