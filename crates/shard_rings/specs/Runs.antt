-- What a run has done: a matrix of what each ring sent to each squeue, and of what came back.
use Rattle.std.specs.Prelude.{◌≡◌, ℕ, ◌<◌, Some, List, [], length, map, slice_get, slice_index_or}
use mathlib.Core.List.{IsPrefix}
use Rattle.perimeter_core.specs.Legal.{feeds_by}
use Rattle.histories.specs.Endings.{HasEnded}
use Rattle.shards.specs.declared.shared.Shared.{Ghosts}
use Rattle.shards.specs.Mixing.{IsMix}
use Rattle.shards.specs.Merging.{went_to}
use Rattle.shard_rings.specs.declared.run.ServedShard.{ServedShard}
use Rattle.shard_rings.specs.Cells.{cell}
use Rattle.shard_rings.specs.Making.{setting_for}

module _ {T : Type 0} where
  -- of a matrix by ring: the row of a ring, and the column of a squeue
  abbrev pub row_of : ℕ → List (List (List T)) → List (List T)
  row_of p rows = slice_index_or rows p []

  abbrev pub column_of : ℕ → List (List (List T)) → List (List T)
  column_of q rows = map (λ row. cell row q) rows

  -- the parcels of a log as they came, each with its ring
  abbrev pub as_came : List (ℕ × (T × T)) → List (ℕ × T)
  as_came log = map (λ e. (e.0, e.1.0)) log

module _ {X T O : Type 0} (G : Ghosts X T O) where
  -- What is left of squeue q, at which the rings shared this at first, to which they sent these parcels, and from which they took those back:
  -- there is a log, which is a mix of what they sent. What they shared is made of it, and what a ring took back is a front of what the log
  -- gave back to it. The squeue's history has the setting of a run of so many rings, is legal and over, and has as many feeds of each ring
  -- as the ring sent parcels
  pub record IsServed (q : ℕ) (first : X) (sent back : List (List T)) (v : ServedShard X) : Type 0 where
    pub log : List (ℕ × (T × T))
    pub mix : IsMix sent (as_came log)
    pub made : G.is_made log v.shared
    pub origin : G.origin v.shared ≡ G.origin first
    pub took : (p : ℕ) → p < length sent → IsPrefix (cell back p) (went_to p log)
    pub number : v.end.number ≡ q
    pub setting : v.end.setting ≡ setting_for (length sent)
    pub ended : HasEnded v.end
    pub fed : (p : ℕ) → p < length sent → feeds_by p v.end.history ≡ length (cell sent p)

  -- Each ring did what it does with its row, and each squeue served its column
  pub record HasRun {B : Type 0} (Did : B → List (List T) → List (List T) → B → Type 0) (shared : List X) (before after : List B)
      (left : List (ServedShard X)) : Type 0 where
    pub sent : List (List (List T))
    pub back : List (List (List T))
    pub rings : length after ≡ length before
    pub rows : (length sent ≡ length before) × (length back ≡ length before)
    pub cells : (p : ℕ) → p < length before → (length (row_of p sent) ≡ length shared) × (length (row_of p back) ≡ length shared)
    pub did : (p : ℕ) (a b : B) → slice_get before p ≡ Some a → slice_get after p ≡ Some b → Did a (row_of p sent) (row_of p back) b
    pub many : length left ≡ length shared
    pub served : (q : ℕ) (x : X) (v : ServedShard X) → slice_get shared q ≡ Some x → slice_get left q ≡ Some v
        → IsServed q x (column_of q sent) (column_of q back) v
