-- What an entry does by its mode and what its turn found.
use Rattle.std.specs.Prelude.{Bool, true, false, List, [], ◌∷◌}
use Rattle.perimeter_core.specs.declared.entries.Feed.{Feed}
use Rattle.histories.specs.declared.mode.Mode.{Mode}
use Rattle.histories.specs.declared.mode.Mode.TheVariants.{Process, NoDrain, Fill}
use Rattle.squeue_enter.specs.declared.entering.Way.{Way}
use Rattle.squeue_enter.specs.declared.entering.Way.TheVariants as Way'

-- by whether nobody has the perimeter, nothing is queued, and one feed is brought
abbrev pub way_of : Mode → Bool → Bool → Bool → Way
way_of Process true true true = Way'.Fast
way_of Process true true false = Way'.Claim
way_of Process true false one = Way'.Claim
way_of Process false empty one = Way'.Fill
way_of NoDrain true true true = Way'.Alone
way_of NoDrain true true false = Way'.Fill
way_of NoDrain true false one = Way'.Fill
way_of NoDrain false empty one = Way'.Fill
way_of Fill free empty one = Way'.Fill

abbrev pub is_one : List Feed → Bool
is_one [] = false
is_one (f ∷ []) = true
is_one (f ∷ g ∷ fs) = false
