-- What the jobs of a run have before, and have done.
use Rattle.std.specs.Prelude.{◌≡◌, ℕ, Option, Some, List, [], ◌∷◌, length, map, slice_get}
use Rattle.turn_gate.specs.Passes.{seen}
use Rattle.turn_gate.specs.declared.pass.Pass.{Pass}
use Rattle.perimeter_core.specs.History.{Element, Limits}
use Rattle.perimeter_core.specs.Legal.{feeds_by}
use Rattle.squeue_state.specs.Naming.{Named}
use Rattle.squeue_serve.specs.Places.{AtEach, HasWorked, Holds, IsNew, MayEnd, MayWork}
use Rattle.shard_rings.specs.declared.cell.Cell.{Cell}
use Rattle.shard_rings.specs.declared.run.RingTask.{RingTask}
use Rattle.shard_rings.specs.Knowing.{Serves, came_of, sent_of}
use Rattle.shard_rings.specs.Rows.{SameEnds}

-- a new cell: nothing was sent, came back or was entered
abbrev pub IsNewCell : {T : Type 0} → Cell T → Type 0
IsNewCell c = (sent_of c ≡ []) × (came_of c ≡ []) × (c.entered ≡ 0)

module _ {R : Type 0} (limits : R → Limits) where
  -- the pass has ended, and entered so many feeds
  pub record HasFed (ring n : ℕ) (s : Named R) (p : Pass Element) : Type 0 where
    pub end : MayEnd limits ring s p
    pub fed : feeds_by ring (seen p) ≡ n

  -- there is one pass, the worker's of the squeue of this number
  abbrev pub MayWorkAt : List (Named R) → ℕ → List (Option (Pass Element)) → Type 0
  MayWorkAt squeues q places = (s : Named R) × (x : Pass Element) × (slice_get squeues q ≡ Some s) × (places ≡ Some x ∷ []) × MayWork limits s x

  -- and it has seen the end
  abbrev pub HasWorkedAt : List (Named R) → ℕ → List (Option (Pass Element)) → List (Option (Pass Element)) → Type 0
  HasWorkedAt squeues q old new =
      (s : Named R) × (x : Pass Element) × (y : Pass Element) × (slice_get squeues q ≡ Some s) × (old ≡ Some x ∷ []) × (new ≡ Some y ∷ []) × HasWorked limits s x y

  module _ {B T : Type 0} (squeues : List (Named R)) where
    -- a ring has a new pass and a new cell of each squeue, and each serves it
    pub record IsReady (places : List (Option (Pass Element))) (a : RingTask B T) : Type 0 where
      pub passes : AtEach (λ s o. Holds (IsNew a.number s) o) squeues places
      pub cells : length a.cells.items ≡ length squeues
      pub new : (q : ℕ) (c : Cell T) → slice_get a.cells.items q ≡ Some c → IsNewCell c
      pub serves : (q : ℕ) (s : Named R) → slice_get squeues q ≡ Some s → Serves limits s a.number

    -- it did what it does, by its cells, and entered a feed for each parcel that it sent
    pub record HasBrought (Did : B → List (List T) → List (List T) → B → Type 0) (places : List (Option (Pass Element))) (a b : RingTask B T) : Type 0 where
      pub number : b.number ≡ a.number
      pub did : Did a.bringer (map sent_of b.cells.items) (map came_of b.cells.items) b.bringer
      pub ends : SameEnds a.cells.items b.cells.items
      pub count : length places ≡ length squeues
      pub fed : (q : ℕ) (s : Named R) (o : Option (Pass Element)) (c : Cell T) → slice_get squeues q ≡ Some s → slice_get places q ≡ Some o
          → slice_get b.cells.items q ≡ Some c → Holds (HasFed a.number (length (sent_of c)) s) o
