-- What the calls of a resident need, and what its limits keep to. Stands tells for which blocks the resident stands.
use Rattle.std.specs.Prelude.{◌≡◌, ℕ, ◌<◌, ◌≤◌, All, Option, Some, None, List, length}
use Rattle.perimeter_core.specs.declared.entries.Act.{Act}
use Rattle.perimeter_core.specs.History.{Limits}
use Rattle.perimeter_core.specs.Deeds.{fed, feed_numbers}
use Rattle.perimeter_core.specs.Blocks.{Blocks}

-- c is here, after n feeds
pub record HadFeeds (Stands : Blocks → Type 0) (c n : ℕ) : Type 0 where
  pub blocks : Blocks
  pub had : List Act
  pub stands : Stands blocks
  pub here : blocks c ≡ Some had
  pub feeds : fed had ≡ n

pub record Here (Stands : Blocks → Type 0) (c : ℕ) : Type 0 where
  pub blocks : Blocks
  pub had : List Act
  pub stands : Stands blocks
  pub here : blocks c ≡ Some had

pub record NotHere (Stands : Blocks → Type 0) (c : ℕ) : Type 0 where
  pub blocks : Blocks
  pub stands : Stands blocks
  pub away : blocks c ≡ None

-- the numbers of the feeds of a block, if it is here
abbrev pub feeds_in : Option (List Act) → Option (List ℕ)
feeds_in None = None
feeds_in (Some had) = Some (feed_numbers had)

abbrev pub feeds_had : Blocks → ℕ → Option (List ℕ)
feeds_had blocks c = feeds_in (blocks c)

-- the limits speak only of the connections below n
pub record IsWithin (n : ℕ) (limits : Limits) : Type 0 where
  pub feeds : length limits.feeds ≤ n
  pub leaves : length limits.leaves ≤ n
  pub calls : All (λ call. call.0 < n) limits.calls
