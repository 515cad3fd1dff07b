-- What the history of a squeue has of parts that its rings took out.
use Rattle.std.specs.Prelude.{◌≡◌, ℕ, ◌+◌, ◌==◌, if◌then◌else◌, List, [], ◌∷◌, ◌++◌}
use Rattle.perimeter_core.specs.Deeds.{acts, fed, takes_out}
use Rattle.perimeter_core.specs.History.{Element, Setting, pass_of}

-- how many feeds the part had in a stay, where the pass ends one by an element behind others
abbrev pub fed_by : Setting → ℕ → ℕ → List Element → Element → ℕ
fed_by S p c past e = if takes_out c e.mark then (if pass_of e.mark == p then fed (acts S (past ++ e ∷ []) c) else 0) else 0

-- and in all stays that it ends by some elements behind others
abbrev pub fed_behind : Setting → ℕ → ℕ → List Element → List Element → ℕ
fed_behind S p c past [] = 0
fed_behind S p c past (e ∷ H) = fed_by S p c past e + fed_behind S p c (past ++ e ∷ []) H

-- in all stays that the pass ended in the history the part had so many feeds
abbrev pub WasFed : Setting → ℕ → ℕ → ℕ → List Element → Type 0
WasFed S p c n H = fed_behind S p c [] H ≡ n
