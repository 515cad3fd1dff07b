-- What the blocks of a squeue stand for: at the place of each connection that is here lies its block, which has had these acts.
use Rattle.std.specs.Prelude.{◌≡◌, ℕ, false, Option, Some, None, List, Box, length}
use Rattle.std.specs.List.{AllByRecursion}
use Rattle.std.specs.declared.alloc.Global.{Global}
use Rattle.perimeter_core.specs.declared.entries.Act.{Act}
use Rattle.perimeter_core.specs.History.{Limits}
use Rattle.perimeter_core.specs.Blocks.{Blocks as Had}
use Rattle.placed_parts.specs.Standing as Placed
use Rattle.conn_classifier.specs.Plan.{PlanOf}
use Rattle.conn_blocks.specs.declared.blocks.Blocks.{Blocks}
use Rattle.conn_blocks.specs.CallLists.{CallLists}
use Rattle.conn_blocks.specs.ServeOrder.{BlockOf, OriginOf}
use Rattle.conn_blocks.specs.Holding.{StandsFor}
use Rattle.conn_blocks.specs.Allowed.{limits_in}

-- the block of connection c has had these acts
abbrev pub BlockAt : PlanOf → CallLists → ℕ → Box BlockOf Global → List Act → Type 0
BlockAt p calls c b had = StandsFor p calls c had b.value

-- what lies at the place of connection c, and the acts of its block where it is here
abbrev pub PlaceFits : PlanOf → CallLists → ℕ → Option (Option (Box BlockOf Global)) → Option (List Act) → Type 0
PlaceFits p calls = Placed.PlaceAt (BlockAt p calls)

abbrev pub PlacesStand : PlanOf → CallLists → List (Option (Box BlockOf Global)) → Had → Type 0
PlacesStand p calls = Placed.PlacesStand (BlockAt p calls)

abbrev pub Stands : Blocks → Had → Type 0
Stands r blocks = PlacesStand r.plan r.calls.now r.places.items blocks

-- memory was never missing in what lies at a place, or at any
abbrev pub NotShort : Option (Box BlockOf Global) → Type 0
NotShort None = Unit {0}
NotShort (Some b) = b.value.short ≡ false

abbrev pub NoneShort : Blocks → Type 0
NoneShort r = AllByRecursion NotShort r.places.items

-- how many connections there are
abbrev pub size_of : Blocks → ℕ
size_of r = length r.plan.tuples

abbrev pub limits_of : Blocks → Limits
limits_of r = limits_in r.plan r.calls.now r.squeue r.squeues r.spread

abbrev pub origin_of : Blocks → OriginOf
origin_of r = record { plan = r.plan; calls = r.calls.now }

-- a block on its way is of its own plan, calls and connection
abbrev pub PartStands : Box BlockOf Global → List Act → Type 0
PartStands b had = StandsFor b.value.of.plan b.value.of.calls b.value.of.c had b.value

abbrev pub IsPartOf : OriginOf → ℕ → Box BlockOf Global → Type 0
IsPartOf o c b = b.value.of ≡ record { plan = o.plan; calls = o.calls; c = c }
