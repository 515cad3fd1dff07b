-- How often a call stands among acts.
use Rattle.std.specs.Prelude.{ℕ, ◌+◌, ◌==◌, ◌&&◌, List, [], ◌∷◌, if◌then◌else◌}
use Rattle.perimeter_core.specs.declared.entries.Act.{Act}
use Rattle.perimeter_core.specs.declared.entries.Act.TheVariants as Did

-- how often call k of thread j is among the acts
abbrev pub times_called : ℕ → ℕ → List Act → ℕ
times_called j k [] = 0
times_called j k (Did.Feed n ∷ acts) = times_called j k acts
times_called j k (Did.Call i m ∷ acts) = (if (i == j) && (m == k) then 1 else 0) + times_called j k acts
