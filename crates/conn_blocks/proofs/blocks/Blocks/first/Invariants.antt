use Rattle.std.proofs.Common.{◌≡◌, length}
use Rattle.std.specs.List.{AllByRecursion}
use Rattle.conn_blocks.specs.Places.{NotShort, PlacesStand}
use Rattle.placed_parts.specs.Standing.{first_here}
use Rattle.conn_blocks.proofs.blocks.Blocks.first.Given as goal

abbrev pub invariant-loop-c : goal.invariant-loop-c
invariant-loop-c l = record { each : length l.places.items ≡ l.c; whole : AllByRecursion NotShort l.places.items; stand : PlacesStand l.plan l.calls l.places.items (first_here l.c l.squeue l.squeues) }
