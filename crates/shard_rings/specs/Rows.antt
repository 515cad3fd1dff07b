-- What a ring knows of its passes at all squeues, by their numbers.
use Rattle.std.specs.Prelude.{◌≡◌, ℕ, Option, Some, List, length, slice_get}
use Rattle.turn_gate.specs.declared.pass.Pass.{Pass}
use Rattle.perimeter_core.specs.History.{Element, Limits}
use Rattle.squeue_state.specs.Naming.{Named}
use Rattle.squeue_serve.specs.Places.{Holds}
use Rattle.shard_rings.specs.declared.cell.Cell.{Cell}
use Rattle.shard_rings.specs.Knowing.{IsAt, SameEnd, Serves, sent_of}

-- the cells have ends of the same lanes
pub record SameEnds {T : Type 0} (xs ys : List (Cell T)) : Type 0 where
  pub count : length ys ≡ length xs
  pub each : (q : ℕ) (a b : Cell T) → slice_get xs q ≡ Some a → slice_get ys q ≡ Some b → SameEnd a b

module _ {R T : Type 0} (limits : R → Limits) where
  -- what the ring knows of one squeue: it entered a feed for each parcel that it sent
  pub record IsKnown (ring : ℕ) (s : Named R) (o : Option (Pass Element)) (c : Cell T) : Type 0 where
    pub serves : Serves limits s ring
    pub at : Holds (IsAt limits s ring c.entered (length (sent_of c))) o

  -- and so of each, for which it has a pass and a cell
  pub record AreKnown (ring : ℕ) (squeues : List (Named R)) (places : List (Option (Pass Element))) (cells : List (Cell T)) : Type 0 where
    pub places_count : length places ≡ length squeues
    pub cells_count : length cells ≡ length squeues
    pub each : (q : ℕ) (s : Named R) (o : Option (Pass Element)) (c : Cell T) → slice_get squeues q ≡ Some s → slice_get places q ≡ Some o
        → slice_get cells q ≡ Some c → IsKnown ring s o c
