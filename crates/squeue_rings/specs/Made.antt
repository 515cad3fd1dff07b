-- How often a call was made.
use Rattle.std.specs.Prelude.{ℕ, ◌+◌, ◌==◌, ◌&&◌, if◌then◌else◌, Bool, false, List, [], ◌∷◌, Option, slice_get}
use Rattle.std.specs.Option.{option_map_or}
use Rattle.turn_gate.specs.declared.pass.Pass.{Pass}
use Rattle.perimeter_core.specs.declared.marks.SynchAct.TheVariants as Done
use Rattle.perimeter_core.specs.declared.marks.Mark.{Mark}
use Rattle.perimeter_core.specs.declared.marks.Mark.TheVariants as On
use Rattle.perimeter_core.specs.History.{Element}
use Rattle.squeue_rings.specs.Seen.{seen_in}

-- the mark makes call k of thread j, on connection c
abbrev pub makes_call : ℕ → ℕ → ℕ → Mark → Bool
makes_call c j k (On.Leave p rest (Done.Call d i m)) = (d == c) && ((i == j) && (m == k))
makes_call c j k _ = false

-- how often a history made it
abbrev pub times_made : ℕ → ℕ → ℕ → List Element → ℕ
times_made c j k [] = 0
times_made c j k (e ∷ H) = (if makes_call c j k e.mark then 1 else 0) + times_made c j k H

-- how often it was made by what the passes in the places have seen
abbrev pub made_in : ℕ → ℕ → ℕ → List (Option (Pass Element)) → ℕ
made_in c j k [] = 0
made_in c j k (o ∷ os) = times_made c j k (seen_in o) + made_in c j k os

-- of calls on these connections, by number: once where call k is on connection c, else never
abbrev pub once_on : List ℕ → ℕ → ℕ → ℕ
once_on cs c k = option_map_or (λ d. if d == c then 1 else 0) (slice_get cs k) 0
