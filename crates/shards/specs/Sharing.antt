-- What a shard stands for.
use Rattle.std.specs.Prelude.{ℕ, List, Vec}
use Rattle.std.proofs.Common.{Global}
use Rattle.perimeter_core.specs.Blocks.{Blocks}
use Rattle.perimeter_core.specs.History.{Limits}
use Rattle.placed_parts.specs.Placing.{Stands, limits_of, size_of}
use Rattle.shards.specs.declared.lanes.SqueueEnd.{SqueueEnd}
use Rattle.shards.specs.declared.shared.Shared.{Ghosts}
use Rattle.shards.specs.declared.shard.Shard.{Shard}
use Rattle.shards.specs.Merging.{IsMerged}

module _ {X H T O : Type 0} {G : Ghosts X T O} where
  -- what the rings share
  abbrev pub shared_of : Shard X H T O G → X
  shared_of r = r.shared

  -- the lanes' ends, by ring
  abbrev pub ends_of : Shard X H T O G → List (SqueueEnd T)
  ends_of r = r.ends.items

  -- the same, as they were first
  abbrev pub first_ends : Shard X H T O G → Vec (SqueueEnd T) Global
  first_ends r = r.first.value

  -- what never changes: that of what the rings share, and which lanes there are
  abbrev pub origin_of : Shard X H T O G → O × Vec (SqueueEnd T) Global
  origin_of r = (G.origin r.shared, r.first.value)

  -- how many rings there are
  abbrev pub rings_of : Shard X H T O G → ℕ
  rings_of r = size_of r.numbers

  -- how many feeds each ring may have, and how often its part may leave
  abbrev pub limits_for : Shard X H T O G → Limits
  limits_for r = limits_of r.numbers

  -- the rings had these feeds, and what they share is made of all parcels that came
  abbrev pub StandsFor : Shard X H T O G → Blocks → Type 0
  StandsFor r blocks = Stands r.numbers blocks × IsMerged G.is_made (ends_of r) (shared_of r)
