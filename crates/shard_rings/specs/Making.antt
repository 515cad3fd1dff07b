-- What a run begins with: the tasks of its jobs, the squeues' ends of all lanes, what lives in the squeues, and the squeues.
use Rattle.std.specs.Prelude.{◌≡◌, ℕ, ◌+◌, ◌^◌, ◌<◌, ◌≤◌, true, Some, List, [], ◌∷◌, ◌++◌, Vec, length, replicate, slice_get}
use Rattle.std.proofs.Common.{Global}
use Rattle.perimeter_core.specs.History.{Limits, Setting}
use Rattle.placed_parts.specs.Standing.{all_new}
use Rattle.squeue_state.specs.Naming.{Named, setting_of}
use Rattle.shards.specs.declared.lanes.SqueueEnd.{SqueueEnd}
use Rattle.shards.specs.declared.shared.Shared.{Ghosts}
use Rattle.shards.specs.declared.shard.Shard.{Shard}
use Rattle.shards.specs.Lanes.{IsLane}
use Rattle.shards.specs.Merging.{AreUnused, IsUnused}
use Rattle.shards.specs.Numbering.{ring_limits}
use Rattle.shards.specs.Sharing.{StandsFor, limits_for, origin_of, rings_of}
use Rattle.shard_rings.specs.declared.cell.Cell.{Cell}
use Rattle.shard_rings.specs.declared.run.RingTask.{RingTask}
use Rattle.shard_rings.specs.declared.run.Task.{Task}
use Rattle.shard_rings.specs.declared.run.Task.TheVariants.{Ring, Work}
use Rattle.shard_rings.specs.Tasks.{IsNewCell}

module _ {B T : Type 0} where
  -- so many rings bring first, and this is so of each and its number; then so many squeues are worked
  pub record AreTasks (count squeues : ℕ) (P : ℕ → RingTask B T → Type 0) (tasks : List (Task B T)) : Type 0 where
    pub many : length tasks ≡ count + squeues
    pub rings : (p : ℕ) → p < count → (t : RingTask B T) × (slice_get tasks p ≡ Some (Ring t)) × P p t
    pub works : (q : ℕ) → q < squeues → slice_get tasks (count + q) ≡ Some (Work q)

  -- the ring of this number has a new cell of each squeue
  pub record IsNewRing (squeues p : ℕ) (t : RingTask B T) : Type 0 where
    pub number : t.number ≡ p
    pub cells : length t.cells.items ≡ squeues
    pub new : (q : ℕ) (c : Cell T) → slice_get t.cells.items q ≡ Some c → IsNewCell c

  -- what brings is that of these, and the other ends of the cells' lanes stand at its place here
  pub record IsLaid (rings : List B) (ends : List (Vec (SqueueEnd T) Global)) (p : ℕ) (t : RingTask B T) : Type 0 where
    pub ring : IsNewRing (length ends) p t
    pub bringer : slice_get rings p ≡ Some t.bringer
    pub lanes : (q : ℕ) (c : Cell T) (v : Vec (SqueueEnd T) Global) (end : SqueueEnd T) → slice_get t.cells.items q ≡ Some c
        → slice_get ends q ≡ Some v → slice_get v.items p ≡ Some end → IsLane c.end end

module _ {T : Type 0} where
  -- each squeue has so many ends, and nothing came by any
  pub record AreEnds (rings squeues : ℕ) (ends : List (Vec (SqueueEnd T) Global)) : Type 0 where
    pub count : length ends ≡ squeues
    pub each : (q : ℕ) (v : Vec (SqueueEnd T) Global) → slice_get ends q ≡ Some v → (length v.items ≡ rings) × AreUnused v.items

  -- one end more stands there, by which nothing came: the other end of the cell's lane, which is new
  pub record IsGrown (c : Cell T) (a b : Vec (SqueueEnd T) Global) : Type 0 where
    pub end : SqueueEnd T
    pub more : b.items ≡ a.items ++ end ∷ []
    pub lane : IsLane c.end end
    pub unused : IsUnused end
    pub new : IsNewCell c

  -- at each squeue of which there is a cell, and at no other
  pub record AreGrown (cells : List (Cell T)) (old new : List (Vec (SqueueEnd T) Global)) : Type 0 where
    pub count : length new ≡ length old
    pub each : (q : ℕ) (c : Cell T) → slice_get cells q ≡ Some c
        → (a : Vec (SqueueEnd T) Global) × (b : Vec (SqueueEnd T) Global) × (slice_get old q ≡ Some a) × (slice_get new q ≡ Some b)
        × IsGrown c a b
    pub rest : (q : ℕ) → length cells ≤ q → slice_get new q ≡ slice_get old q

module _ {X H T O : Type 0} {G : Ghosts X T O} where
  -- a new resident, for this and these ends
  pub record IsShardOf (x : X) (v : Vec (SqueueEnd T) Global) (r : Shard X H T O G) : Type 0 where
    pub stands : StandsFor r (all_new (length v.items))
    pub limits : limits_for r ≡ ring_limits (length v.items)
    pub size : rings_of r ≡ length v.items
    pub origin : origin_of r ≡ (G.origin x, v)

  -- one for each of these
  pub record AreShards (shared : List X) (ends : List (Vec (SqueueEnd T) Global)) (residents : List (Shard X H T O G)) : Type 0 where
    pub count : length residents ≡ length shared
    pub each : (q : ℕ) (r : Shard X H T O G) → slice_get residents q ≡ Some r
        → (x : X) × (v : Vec (SqueueEnd T) Global) × (slice_get shared q ≡ Some x) × (slice_get ends q ≡ Some v)
        × IsShardOf x v r

  -- a run over these by these rings has begun: its lanes, tasks and residents are made
  pub record HasBegun {B : Type 0} (count : ℕ) (shared : List X) (before : List B) (residents : List (Shard X H T O G))
      (tasks : List (Task B T)) : Type 0 where
    pub ends : List (Vec (SqueueEnd T) Global)
    pub all : length before ≡ count
    pub are_ends : AreEnds count (length shared) ends
    pub are_tasks : AreTasks count (length shared) (IsLaid before ends) tasks
    pub are_shards : AreShards shared ends residents

-- how much the pass of a ring may enter in its life
abbrev pub life : ℕ × ℕ
life = (2 ^ 50, 2 ^ 52)

-- the setting of a squeue of so many rings
abbrev pub setting_for : ℕ → Setting
setting_for rings = record { rings = rings; quotas = replicate rings life; starts = replicate rings true; limits = ring_limits rings }

module _ {R : Type 0} (limits : R → Limits) where
  -- a squeue of so many rings was made of this resident, and has this number
  pub record IsMadeOf (rings q : ℕ) (r : R) (s : Named R) : Type 0 where
    pub number : s.given.number ≡ q
    pub first : s.given.first ≡ r
    pub setting : setting_of limits s.given ≡ setting_for rings

  -- one was of each of these
  pub record AreMadeOf (rings : ℕ) (residents : List R) (squeues : List (Named R)) : Type 0 where
    pub count : length squeues ≡ length residents
    pub each : (q : ℕ) (s : Named R) → slice_get squeues q ≡ Some s → (r : R) × (slice_get residents q ≡ Some r) × IsMadeOf rings q r s
