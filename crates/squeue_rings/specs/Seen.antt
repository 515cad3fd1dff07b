-- What the passes in places have seen.
use Rattle.std.specs.Prelude.{List, [], ◌∷◌, Option, Some, None}
use Rattle.turn_gate.specs.Passes.{seen}
use Rattle.turn_gate.specs.declared.pass.Pass.{Pass}
use Rattle.perimeter_core.specs.History.{Element, Limits}
use Rattle.squeue_state.specs.Naming.{Named, setting_of}
use Rattle.histories.specs.Endings.{Ending}

-- what the pass in the place has seen; where there is none, nothing
abbrev pub seen_in : Option (Pass Element) → List Element
seen_in None = []
seen_in (Some x) = seen x

-- the histories that the passes in the places have seen, so far, one for each squeue
abbrev pub seen_ends : {R : Type 0} → (R → Limits) → List (Named R) → List (Option (Pass Element)) → List Ending
seen_ends limits [] places = []
seen_ends limits (s ∷ ss) [] = []
seen_ends limits (s ∷ ss) (o ∷ os) = record { number = s.given.number; setting = setting_of limits s.given; history = seen_in o } ∷ seen_ends limits ss os
