-- Acts that are kept in one list, and the places where parts of it begin.
use Rattle.std.specs.Prelude.{ℕ, ◌-◌, ◌&&◌, Bool, true, List, [], ◌∷◌, drop, nat_le, take}
use Rattle.perimeter_core.specs.declared.entries.Act.{Act}

-- the acts between places where stays begin, and those from the last one on
abbrev pub parts_of : List ℕ → List Act → List (List Act)
parts_of [] acts = []
parts_of (from ∷ []) acts = drop from acts ∷ []
parts_of (from ∷ to ∷ more) acts = take (to - from) (drop from acts) ∷ parts_of (to ∷ more) acts

-- these places stand in order, and none behind the end
abbrev pub are_inside : List ℕ → ℕ → Bool
are_inside [] n = true
are_inside (from ∷ []) n = nat_le from n
are_inside (from ∷ to ∷ more) n = nat_le from to && are_inside (to ∷ more) n
