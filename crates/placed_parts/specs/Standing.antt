-- What places stand for, by what their parts stand for.
use Rattle.std.specs.Prelude.{◌≡◌, ℕ, ◌%◌, ◌==◌, ◌&&◌, Option, Some, None, List, [], if◌then◌else◌, nat_lt, slice_get}
use Rattle.perimeter_core.specs.declared.entries.Act.{Act}
use Rattle.perimeter_core.specs.Deeds.{fed}
use Rattle.perimeter_core.specs.Blocks.{Blocks}
use Rattle.perimeter_core.specs.Numbered.{IsNumbered}

-- a part stands for some acts
pub record HasHad (Stands : List Act → Type 0) : Type 0 where
  pub had : List Act
  pub stands : Stands had

-- a part stands for some acts, n feeds among them
pub record HasFed (Stands : List Act → Type 0) (n : ℕ) : Type 0 where
  pub had : List Act
  pub stands : Stands had
  pub feeds : fed had ≡ n

-- the feeds of a part were numbered from 0 on
abbrev pub InOrder : {P : Type 0} → (P → List Act → Type 0) → P → List Act → Type 0
InOrder Had part had = IsNumbered had × Had part had

-- a part is the connection's own, as Own tells, and stands for the acts, as Had tells
abbrev pub OwnPart : {P : Type 0} → (ℕ → P → Type 0) → (P → List Act → Type 0) → ℕ → P → List Act → Type 0
OwnPart Own Had c part had = Own c part × Had part had

-- What is at the place of connection c is its part, and there is one exactly where the connection is here. At tells which parts
-- may be there after these acts
abbrev pub PlaceAt : {P : Type 0} → (ℕ → P → List Act → Type 0) → ℕ → Option (Option P) → Option (List Act) → Type 0
PlaceAt At c (Some (Some part)) (Some had) = At c part had
PlaceAt At c (Some (Some part)) None = ⊥
PlaceAt At c (Some None) (Some had) = ⊥
PlaceAt At c (Some None) None = Unit {0}
PlaceAt At c None (Some had) = ⊥
PlaceAt At c None None = Unit {0}

abbrev pub PlacesStand : {P : Type 0} → (ℕ → P → List Act → Type 0) → List (Option P) → Blocks → Type 0
PlacesStand At places blocks = (c : ℕ) → PlaceAt At c (slice_get places c) (blocks c)

-- n connections are here, and nothing was done to them
abbrev pub all_new : ℕ → Blocks
all_new n c = if nat_lt c n then Some [] else None

-- of n connections those are here whose number leaves k, divided by so many, and nothing was done to them
abbrev pub first_here : ℕ → ℕ → ℕ → Blocks
first_here n k squeues c = if nat_lt c n && (c % squeues == k) then Some [] else None
