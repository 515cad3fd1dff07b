-- What the worked rows begin with.
use Rattle.std.specs.Prelude.{◌≡◌, ◌^◌, ℕ, zero, suc, Bool, true, Option, Some, None, List, [], ◌∷◌, length, replicate}
use Rattle.perimeter_core.specs.declared.entries.Feed.{Feed}
use Rattle.perimeter_core.specs.Perimeter.{Idle}
use Rattle.perimeter_core.specs.History.{Element, Setting, Limits, run}
use Rattle.perimeter_core.specs.Blocks.{Blocks, none_done}
use Rattle.turn_gate.specs.Passes.{IsPassOf, number, seen}
use Rattle.turn_gate.specs.declared.pass.Pass.{Pass}
use Rattle.squeue_state.specs.Naming.{Named, setting_of}
use Rattle.histories.specs.Elements.{number_of}
use Rattle.squeue_state.specs.AllRoom.{HasAllRoom}
use Rattle.squeue_enter.specs.Entering.{MayEnter}

-- each of n connections may have so many feeds, no block may leave, and no call exists
abbrev pub plain_limits : ℕ → ℕ → Limits
plain_limits n feeds = record { feeds = replicate n feeds; leaves = replicate n 0; calls = [] }

-- a resident that is as new: the connections with a flag are here, and each may have so many feeds
abbrev pub IsNew : {R : Type 0} → (R → Blocks → Type 0) → (R → Limits) → (R → ℕ) → List Bool → ℕ → R → Type 0
IsNew stands limits size starts feeds r = stands r (none_done starts) × (size r ≡ length starts) × (limits r ≡ plain_limits (length starts) feeds)

abbrev pub all_here : List Bool
all_here = true ∷ true ∷ true ∷ true ∷ []

-- three rings and a worker over four connections that are all here; the rings may bring two feeds, two and one
abbrev pub four_here : Setting
four_here = record { rings = 3; quotas = (2, 0) ∷ (2, 0) ∷ (1, 0) ∷ []; starts = all_here; limits = plain_limits 4 2 }

abbrev pub the_one : List Bool
the_one = true ∷ []

-- one ring and a worker over one connection that is here; the ring may bring twenty feeds
abbrev pub one_here : Setting
one_here = record { rings = 1; quotas = (20, 0) ∷ []; starts = the_one; limits = plain_limits 1 20 }

-- the same ring, whose life is of so many feeds that no memory would hold them
abbrev pub one_for_life : Setting
one_for_life = record { rings = 1; quotas = (2 ^ 40, 0) ∷ []; starts = the_one; limits = plain_limits 1 20 }

abbrev pub both_here : List Bool
both_here = true ∷ true ∷ []

-- two rings and a worker over two connections that are here; each ring may bring one feed
abbrev pub two_here : Setting
two_here = record { rings = 2; quotas = (1, 0) ∷ (1, 0) ∷ []; starts = both_here; limits = plain_limits 2 1 }

-- count feeds of connection c, from number n on
abbrev pub in_order : ℕ → ℕ → ℕ → List Feed
in_order c n zero = []
in_order c n (suc count) = record { c = c; n = n } ∷ in_order c (suc n) count

-- the pass of this number may enter these feeds, for which there is room
abbrev pub MayBring : {R : Type 0} → (R → Limits) → Named R → ℕ → List Feed → Pass Element → Type 0
MayBring limits s k es p = (number p ≡ k) × MayEnter limits s p es × HasAllRoom s.given

-- the pass of this number isn't inside, and may close
abbrev pub IsIdle : {R : Type 0} → (R → Limits) → Named R → ℕ → Pass Element → Type 0
IsIdle limits s k p = (number p ≡ k) × IsPassOf number_of s.gate p × Idle (run (setting_of limits s.given) (seen p)) k

-- the place holds a pass of which this is known
abbrev pub Holds : (Pass Element → Type 0) → Option (Pass Element) → Type 0
Holds P (Some p) = P p
Holds P None = ⊥
