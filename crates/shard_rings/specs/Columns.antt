-- What is left at one squeue when all jobs are done, and what is made of it.
use Rattle.std.specs.Prelude.{◌≡◌, ℕ, ◌<◌, ◌≤◌, Some, List, [], ◌∷◌, ◌++◌, Vec, length, slice_get}
use Rattle.std.proofs.Common.{Global}
use Rattle.std.specs.List.{AllByRecursion}
use mathlib.Core.List.{IsPrefix}
use Rattle.rtrb.specs.Ring.{received, sent}
use Rattle.shards.specs.declared.lanes.SqueueEnd.{SqueueEnd}
use Rattle.shards.specs.declared.shared.Shared.{Ghosts}
use Rattle.shards.specs.declared.shard.Shard.{Shard}
use Rattle.shards.specs.Lanes.{IsLane}
use Rattle.shards.specs.Merging.{IsMerged, came_from, went_to}
use Rattle.shards.specs.Sharing.{ends_of, origin_of, rings_of, shared_of}
use Rattle.squeue_pool.specs.declared.work.Left.{Left}
use Rattle.shard_rings.specs.declared.cell.Cell.{Cell}
use Rattle.shard_rings.specs.declared.run.RingTask.{RingTask}
use Rattle.shard_rings.specs.declared.run.ServedShard.{ServedShard}
use Rattle.shard_rings.specs.declared.run.Task.{Task}
use Rattle.shard_rings.specs.declared.run.Task.TheVariants.{Ring, Work}
use Rattle.shard_rings.specs.Knowing.{came_of, sent_of}

-- the rings' tasks
abbrev pub rings_in : {B T : Type 0} → List (Task B T) → List (RingTask B T)
rings_in [] = []
rings_in (Ring a ∷ tasks) = a ∷ rings_in tasks
rings_in (Work q ∷ tasks) = rings_in tasks

module _ {T : Type 0} where
  -- the cells of a squeue, by ring, are the other ends of its lanes
  pub record AreLanes (column : List (Cell T)) (ends : List (SqueueEnd T)) : Type 0 where
    pub count : length ends ≡ length column
    pub each : (p : ℕ) (c : Cell T) (end : SqueueEnd T) → slice_get column p ≡ Some c → slice_get ends p ≡ Some end
        → IsLane c.end end

  -- all that the ring sent by this cell was popped, and what it took back is a front of what was given back to it
  pub record HasTaken (c : Cell T) (end : SqueueEnd T) : Type 0 where
    pub all : received end.input ≡ sent_of c
    pub front : IsPrefix (came_of c) (sent end.back)

  -- there is a log of all that the rings sent by these cells, of which this is made
  pub record IsFinished {X : Type 0} (IsMade : List (ℕ × (T × T)) → X → Type 0) (column : List (Cell T)) (shared : X) : Type 0 where
    pub log : List (ℕ × (T × T))
    pub sent : (p : ℕ) (c : Cell T) → slice_get column p ≡ Some c → came_from p log ≡ sent_of c
    pub back : (p : ℕ) (c : Cell T) → slice_get column p ≡ Some c → IsPrefix (came_of c) (went_to p log)
    pub only : AllByRecursion (λ (e : ℕ × (T × T)). e.0 < length column) log
    pub made : IsMade log shared

  -- of the first so many rows the last cell was taken, by row
  pub record AreTaken (n : ℕ) (old new : List (Vec (Cell T) Global)) (column : List (Cell T)) : Type 0 where
    pub same : length new ≡ length old
    pub many : length column ≡ n
    pub each : (p : ℕ) (a : Vec (Cell T) Global) → p < n → slice_get old p ≡ Some a
        → (b : Vec (Cell T) Global) × (c : Cell T) × (slice_get new p ≡ Some b) × (slice_get column p ≡ Some c) × (a.items ≡ b.items ++ c ∷ [])
    pub rest : (p : ℕ) → n ≤ p → slice_get new p ≡ slice_get old p

  -- the cells of squeue q, by ring, of rows of cells by ring
  pub record IsColumn (rows : List (Vec (Cell T) Global)) (q : ℕ) (column : List (Cell T)) : Type 0 where
    pub count : length column ≡ length rows
    pub each : (p : ℕ) (row : Vec (Cell T) Global) → slice_get rows p ≡ Some row
        → (c : Cell T) × (slice_get row.items q ≡ Some c) × (slice_get column p ≡ Some c)

module _ {X H T O : Type 0} {G : Ghosts X T O} (rows : List (Vec (Cell T) Global)) where
  -- the resident of squeue q has the other ends of its cells' lanes, and has merged what came by them
  pub record MayFinish (q : ℕ) (r : Shard X H T O G) : Type 0 where
    pub rings : rings_of r ≡ length rows
    pub count : length (ends_of r) ≡ length rows
    pub lanes : (p : ℕ) (row : Vec (Cell T) Global) (c : Cell T) (end : SqueueEnd T) → slice_get rows p ≡ Some row
        → slice_get row.items q ≡ Some c → slice_get (ends_of r) p ≡ Some end → IsLane c.end end
    pub merged : IsMerged G.is_made (ends_of r) (shared_of r)

  -- so it is at each squeue
  abbrev pub MayFinishAll : List (Left (Shard X H T O G)) → Type 0
  MayFinishAll left = (q : ℕ) (v : Left (Shard X H T O G)) → slice_get left q ≡ Some v → MayFinish q v.resident

  -- what the rings shared at squeue q has taken all that they sent there, and the rest is as it was left
  pub record IsEnded (q : ℕ) (v : Left (Shard X H T O G)) (w : ServedShard X) : Type 0 where
    pub column : List (Cell T)
    pub cells : IsColumn rows q column
    pub finished : IsFinished G.is_made column w.shared
    pub origin : G.origin w.shared ≡ (origin_of v.resident).0
    pub end : w.end ≡ v.end

  -- and so did all
  pub record AreEnded (left : List (Left (Shard X H T O G))) (served : List (ServedShard X)) : Type 0 where
    pub count : length served ≡ length left
    pub each : (q : ℕ) (w : ServedShard X) → slice_get served q ≡ Some w
        → (v : Left (Shard X H T O G)) × (slice_get left q ≡ Some v) × IsEnded q v w
