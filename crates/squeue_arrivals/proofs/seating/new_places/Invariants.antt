use Rattle.std.proofs.Common.{◌≡◌, ◌≤◌, ℕ, Some, drop, length, slice_get, vec_capacity}
use Rattle.std.specs.Prelude.{reverse}
use Rattle.stream_stays.specs.declared.place.Place.{Place}
use Rattle.squeue_arrivals.specs.Seating.{IsNewPlace}
use Rattle.squeue_arrivals.proofs.seating.new_places.Given as goal

-- the places before this number are made, and the other rings are left
abbrev pub invariant-loop-stream : goal.invariant-loop-stream
invariant-loop-stream g l =
    record {
      push_left : reverse l.producers.items ≡ drop l.stream l.fn.producers.items;
      pop_left : reverse l.parts.items ≡ drop l.stream l.fn.parts.items;
      made : length l.places.items ≡ l.stream;
      each : (k : ℕ) (place : Place g.row.T.Denot g.row.S.Denot) → slice_get l.places.items k ≡ Some place → IsNewPlace l.fn.parts.items k place;
      room : l.count ≤ vec_capacity l.places;
    }
