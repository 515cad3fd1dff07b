-- The end of a squeue.
use Rattle.std.specs.Prelude.{ℕ, List, [], ◌∷◌, if◌then◌else◌, ◌==◌}
use Rattle.turn_gate.specs.Passes.{number, seen}
use Rattle.turn_gate.specs.declared.pass.Pass.{Pass}
use Rattle.perimeter_core.specs.History.{Element, Limits}
use Rattle.squeue_state.specs.Naming.{Given, setting_of}
use Rattle.histories.specs.Endings.{Ending}

-- how the squeue ends whose history is this one
abbrev pub ending_of : {R : Type 0} → (R → Limits) → Given R → List Element → Ending
ending_of limits g H = record { number = g.number; setting = setting_of limits g; history = H }

-- what the pass of this number has seen
abbrev pub seen_by : ℕ → List (Pass Element) → List Element
seen_by w [] = []
seen_by w (p ∷ ps) = if number p == w then seen p else seen_by w ps
