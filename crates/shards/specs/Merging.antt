-- What came by the lanes of a squeue, and what went back by them. A log has all parcels, oldest first: each with its ring, as it came and as
-- it went back.
use Rattle.std.specs.Prelude.{◌≡◌, ℕ, ◌<◌, Some, List, ◌∷◌, [], ◌++◌, length, map, slice_get, slice_set}
use Rattle.std.specs.List.{AllByRecursion}
use mathlib.Core.List.{IsPrefix}
use Rattle.rtrb.specs.Ring.{SameConsumer, SameProducer, received, sent}
use Rattle.shards.specs.Mixing.{from_ring}
use Rattle.shards.specs.declared.lanes.RingEnd.{RingEnd}
use Rattle.shards.specs.declared.lanes.SqueueEnd.{SqueueEnd}
use Rattle.shards.specs.Lanes.{IsLane}

module _ {T : Type 0} where
  -- the parcels of a ring as they came, and as they went back
  abbrev pub came_from : ℕ → List (ℕ × (T × T)) → List T
  came_from p log = map (λ e. e.0) (from_ring p log)

  abbrev pub went_to : ℕ → List (ℕ × (T × T)) → List T
  went_to p log = map (λ e. e.1) (from_ring p log)

  -- the log has of a ring what was popped of its lane, and what was pushed back
  pub record IsLogged (log : List (ℕ × (T × T))) (p : ℕ) (end : SqueueEnd T) : Type 0 where
    pub came : received end.input ≡ came_from p log
    pub went : sent end.back ≡ went_to p log

  -- nothing came by a lane, and by none of these
  abbrev pub IsUnused : SqueueEnd T → Type 0
  IsUnused end = (received end.input ≡ []) × (sent end.back ≡ [])

  abbrev pub AreUnused : List (SqueueEnd T) → Type 0
  AreUnused ends = AllByRecursion IsUnused ends

  -- they are ends of the same lane, and so all lanes
  abbrev pub SameLane : SqueueEnd T → SqueueEnd T → Type 0
  SameLane a b = SameConsumer a.input b.input × SameProducer a.back b.back

  abbrev pub SameLanes : List (SqueueEnd T) → List (SqueueEnd T) → Type 0
  SameLanes xs ys =
      (length xs ≡ length ys) × ((p : ℕ) (a b : SqueueEnd T) → slice_get xs p ≡ Some a → slice_get ys p ≡ Some b → SameLane a b)

  -- this is the other end of the ring's lane
  abbrev pub IsLaneAt : List (SqueueEnd T) → ℕ → RingEnd T → Type 0
  IsLaneAt ends p ring = (end : SqueueEnd T) → slice_get ends p ≡ Some end → IsLane ring end

  -- these were popped of the ring's lane
  abbrev pub HasAll : List (SqueueEnd T) → ℕ → List T → Type 0
  HasAll ends p all = (end : SqueueEnd T) → slice_get ends p ≡ Some end → received end.input ≡ all

  -- the ring took a front of what was given back to it
  abbrev pub GaveBack : List (SqueueEnd T) → ℕ → List T → Type 0
  GaveBack ends p taken = (end : SqueueEnd T) → slice_get ends p ≡ Some end → IsPrefix taken (sent end.back)

  module _ {S : Type 0} (IsMade : List (ℕ × (T × T)) → S → Type 0) where
    -- there is a log of what came by all lanes and by no other, of which what is shared is made
    pub record IsMerged (ends : List (SqueueEnd T)) (shared : S) : Type 0 where
      pub log : List (ℕ × (T × T))
      pub each : (p : ℕ) (end : SqueueEnd T) → slice_get ends p ≡ Some end → IsLogged log p end
      pub only : AllByRecursion (λ (e : ℕ × (T × T)). e.0 < length ends) log
      pub made : IsMade log shared

    -- one parcel of a ring was popped, taken and given back
    pub record TookOne (ring : ℕ) (a b : SqueueEnd T) (from to : S) : Type 0 where
      pub came : T
      pub went : T
      pub popped : received b.input ≡ received a.input ++ came ∷ []
      pub pushed : sent b.back ≡ sent a.back ++ went ∷ []
      pub taken : (log : List (ℕ × (T × T))) → IsMade log from → IsMade (log ++ (ring, (came, went)) ∷ []) to

    -- what was done at the lane of a ring keeps this, whatever came by the others
    abbrev pub Merges : ℕ → SqueueEnd T → SqueueEnd T → S → S → Type 0
    Merges ring a b from to =
        (ends : List (SqueueEnd T)) → slice_get ends ring ≡ Some a → IsMerged ends from → IsMerged (slice_set ends ring b) to

    -- the next parcel of the ring's lane was, and at the other lanes nothing was done
    pub record TakesOne (ring : ℕ) (before after : List (SqueueEnd T)) (from to : S) : Type 0 where
      pub a : SqueueEnd T
      pub b : SqueueEnd T
      pub its : slice_get before ring ≡ Some a
      pub lane : SameLane a b
      pub others : after ≡ slice_set before ring b
      pub took : TookOne ring a b from to
