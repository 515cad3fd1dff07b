-- What a resident of places is, by what its parts have in common.
use Rattle.std.specs.Prelude.{◌≡◌, ℕ, Option, Some, None, List, length, slice_index_or}
use Rattle.perimeter_core.specs.declared.entries.Act.{Act}
use Rattle.perimeter_core.specs.History.{Limits}
use Rattle.perimeter_core.specs.Blocks.{Blocks}
use Rattle.placed_parts.specs.declared.parts.Parts.{Ghosts}
use Rattle.placed_parts.specs.declared.places.Places.{Places}
use Rattle.placed_parts.specs.Standing.{InOrder, OwnPart, PlacesStand}

module _ {S P O : Type 0} {G : Ghosts S P O} where
  -- which parts may be at a place after which acts
  abbrev pub MayBe : Places S P O G → ℕ → P → List Act → Type 0
  MayBe r = OwnPart (G.is_part_of (G.origin r.shared)) (InOrder G.part_stands)

  abbrev pub Stands : Places S P O G → Blocks → Type 0
  Stands r blocks = PlacesStand (MayBe r) r.places.items blocks

  abbrev pub limits_of : Places S P O G → Limits
  limits_of r = G.limits r.shared

  -- how many connections there are
  abbrev pub size_of : Places S P O G → ℕ
  size_of r = length r.places.items

  abbrev pub origin_of : Places S P O G → O
  origin_of r = G.origin r.shared

  -- what all parts share
  abbrev pub shared_of : Places S P O G → S
  shared_of r = r.shared

  -- for each connection its part, if it is here
  abbrev pub parts_of : Places S P O G → List (Option P)
  parts_of r = r.places.items

  -- the part of a connection, if it is here
  abbrev pub part_at : Places S P O G → ℕ → Option P
  part_at r c = slice_index_or (parts_of r) c None

  -- where connection c is here, the part is its own, and stands for what was done to it
  abbrev pub IsItsPart : Places S P O G → ℕ → P → Type 0
  IsItsPart r c part =
      (blocks : Blocks) (had : List Act) → Stands r blocks → blocks c ≡ Some had → G.is_part_of (origin_of r) c part × InOrder G.part_stands part had
