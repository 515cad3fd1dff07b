use Rattle.std.proofs.Common.{◌≡◌, length}
use Rattle.datagram_services.specs.Standing.{PlacesStand}
use Rattle.placed_parts.specs.Standing.{first_here}
use Rattle.datagram_services.proofs.blocks.StreamBlocks.make.Given as goal

abbrev pub invariant-loop-c : goal.invariant-loop-c
invariant-loop-c l = record { count : length l.places.items ≡ l.c; stands : PlacesStand l.plan l.places.items (first_here l.c l.squeue l.squeues) }
