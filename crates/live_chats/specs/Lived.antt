-- Where connections were served: each one, while it lived, at places of its ring, by feeds of a squeue's history.
use Rattle.std.specs.Prelude.{ℕ, ◌+◌, ◌≤◌, ◌==◌, if◌then◌else◌, Option, None, Some, List, [], ◌∷◌, ◌++◌, map}
use Rattle.std.specs.List.{count_by, flat_map, sum}
use Rattle.std.specs.List.Sorted.{IsPermutation}
use Rattle.std.specs.Option.{option_map_or}
use Rattle.sq_base.specs.declared.kinds.Tuple.{Tuple}
use Rattle.perimeter_core.specs.declared.marks.Mark.{Mark}
use Rattle.perimeter_core.specs.declared.marks.Mark.TheVariants as On
use Rattle.perimeter_core.specs.declared.marks.SynchAct.TheVariants as Done
use Rattle.perimeter_core.specs.Deeds.{acts, fed}
use Rattle.perimeter_core.specs.History.{Element, Setting}
use Rattle.live_server.specs.Table.{tuple_eq}
use Rattle.live_server.specs.Told.{Told}
use Rattle.live_server.specs.Told.Told.{begins, hears}

-- how many frames the connection of these ends hears, until another one of these ends begins, where it hears so many more behind these
abbrev pub heard_with : (Tuple → ℕ) → List Told → Tuple → ℕ
heard_with more [] t = more t
heard_with more (begins u ∷ ws) t = if tuple_eq t u then 0 else heard_with more ws t
heard_with more (hears u ∷ ws) t = if tuple_eq t u then 1 + heard_with more ws t else heard_with more ws t

-- of each connection that begins: one, and one more for each frame that it hears
abbrev pub lives_with : (Tuple → ℕ) → List Told → List ℕ
lives_with more [] = []
lives_with more (begins t ∷ ws) = (1 + heard_with more ws t) ∷ lives_with more ws
lives_with more (hears t ∷ ws) = lives_with more ws

-- so it is where nothing comes behind these
abbrev pub lives : List Told → List ℕ
lives = lives_with (λ t. 0)

-- the part that the pass takes out by a mark
abbrev pub taken_by : ℕ → Mark → Option ℕ
taken_by p (On.Leave q rest (Done.Out c)) = if q == p then Some c else None
taken_by p _ = None

-- how many feeds that part had since it was put in, where an element comes behind others
abbrev pub stay_of : Setting → ℕ → List Element → Element → List ℕ
stay_of S p past e = option_map_or (λ c. fed (acts S (past ++ e ∷ []) c) ∷ []) (taken_by p e.mark) []

abbrev pub stays_behind : Setting → ℕ → List Element → List Element → List ℕ
stays_behind S p past [] = []
stays_behind S p past (e ∷ H) = stay_of S p past e ++ stays_behind S p (past ++ e ∷ []) H

-- the feeds of all stays that the pass ended in a history, one after another
abbrev pub stays_by : Setting → ℕ → List Element → List ℕ
stays_by S p H = stays_behind S p [] H

-- Each of these numbers, in some order, is the sum of some stays, and no stay counts twice
pub record AreMadeOf (stays numbers : List ℕ) : Type 0 where
  pub groups : List (List ℕ)
  pub sums : IsPermutation (map sum groups) numbers
  pub fits : (n : ℕ) → count_by (λ m. m == n) (flat_map (λ g. g) groups) ≤ count_by (λ m. m == n) stays
