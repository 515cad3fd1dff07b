use Rattle.std.proofs.Common.{◌≡◌, ◌≤◌, length, take, vec_capacity}
use Rattle.perimeter_core.specs.Blocks.{none_done}
use Rattle.placed_parts.specs.Standing.{InOrder, OwnPart, PlacesStand}
use Rattle.placed_parts.proofs.places.Places.make_where.Given as goal

abbrev pub invariant-loop-c : goal.invariant-loop-c
invariant-loop-c g l =
    record {
      count : length l.places.items ≡ l.c;
      room : length l.starts ≤ vec_capacity l.places;
      stands : PlacesStand (OwnPart (g.S.Parts.is_part_of (g.S.Parts.origin l.shared)) (InOrder g.S.Parts.part_stands)) l.places.items (none_done (take l.c l.starts));
    }
