use Rattle.std.proofs.Common.{◌≡◌, ◌≤◌, ℕ, Some, length, slice_get, take, vec_capacity}
use Rattle.stream_stays.specs.declared.place.Place.TheVariants.{Vacant as Vacant'}
use Rattle.stream_stays.specs.declared.stay.Vacant.{Vacant}
use Rattle.squeue_streams.specs.Taking.{state_of}
use Rattle.squeue_arrivals.specs.Arriving.{keys_of}
use Rattle.squeue_arrivals.specs.Placed.{keys_in, place_of}
use Rattle.squeue_arrivals.specs.declared.served.KeyPart.{KeyPart}
use Rattle.squeue_arrivals.proofs.ring.take_parts.Given as goal

-- the parts of the keys before this one are taken
abbrev pub invariant-loop-i : goal.invariant-loop-i
invariant-loop-i g l =
    record {
      ahead : (j : ℕ) → l.i ≤ j → slice_get l.places.items (place_of l.keys j) ≡ slice_get l.fn.places.items (place_of l.keys j);
      its_keys : keys_of l.parts.items ≡ take l.i (keys_in l.keys);
      states : (j : ℕ) (part : KeyPart g.row.S.Denot) → slice_get l.parts.items j ≡ Some part
          → (v : Vacant g.row.T.Denot g.row.S.Denot) × (slice_get l.fn.places.items (place_of l.keys j) ≡ Some (Vacant' v)) × (part.state ≡ state_of v.part);
      many : length l.parts.items ≡ l.i;
      room : length (keys_in l.keys) ≤ vec_capacity l.parts;
    }
