-- What the threads of a run are lent.
use Rattle.std.specs.Prelude.{◌≡◌, ◌+◌, ◌<◌, ◌≤◌, ℕ, Option, Some, None, List, [], length, slice_index_or, vec_capacity}
use Rattle.turn_gate.specs.Passes.{IsPassOf, number, seen}
use Rattle.turn_gate.specs.declared.pass.Pass.{Pass}
use Rattle.perimeter_core.specs.declared.entries.Feed.{Feed}
use Rattle.perimeter_core.specs.History.{Element, Limits, run}
use Rattle.perimeter_core.specs.Ending.{IsOver}
use Rattle.squeue_state.specs.Naming.{Named, setting_of}
use Rattle.histories.specs.Elements.{number_of}
use Rattle.squeue_state.specs.AllRoom.{HasAllRoom}
use Rattle.squeue_enter.specs.Entering.{MayEnter}
use Rattle.squeue_bench.specs.declared.threads.Bringer.{Bringer}
use Rattle.squeue_bench.specs.declared.threads.Worker.{Worker}

-- to each squeue belongs what stands at its place
pub record AtEach {R A : Type 0} (P : Named R → A → Type 0) (squeues : List (Named R)) (xs : List A) : Type 0 where
  pub as_many : length xs ≡ length squeues
  pub each : (q : ℕ) (s : Named R) (x : A) → q < length squeues → P (slice_index_or squeues q s) (slice_index_or xs q x)

module _ {R : Type 0} where
  -- pass k of the squeue stands there
  abbrev pub HasPass : ℕ → Named R → Option (Pass Element) → Type 0
  HasPass k s (Some p) = IsPassOf number_of s.gate p × (number p ≡ k)
  HasPass k s None = ⊥

  -- the worker's pass, and room for all passes
  abbrev pub IsWorker : Named R → Worker → Type 0
  IsWorker s w = HasPass (length s.given.quotas) s w.pass × (w.room.items ≡ []) × (length s.given.quotas + 1 ≤ vec_capacity w.room)

  -- ring k has pass k of each squeue
  abbrev pub HaveClosed : List (Named R) → List Bringer → Type 0
  HaveClosed squeues rings = (k : ℕ) (d : Bringer) → k < length rings → AtEach (HasPass k) squeues (slice_index_or rings k d).passes.items

module _ {R : Type 0} (limits : R → Limits) where
  -- a pass that has seen the squeue's end
  abbrev pub HasSeenOver : Named R → Option (Pass Element) → Type 0
  HasSeenOver s (Some p) = IsOver (setting_of limits s.given) (run (setting_of limits s.given) (seen p))
  HasSeenOver s None = ⊥

  -- the worker's pass, which has seen the squeue's end
  abbrev pub HasWorked : Named R → Worker → Type 0
  HasWorked s w = IsWorker s w × HasSeenOver s w.pass

module _ {R : Type 0} (limits : R → Limits) (bound : ℕ) where
  -- pass k of the squeue stands there, and may enter these feeds, for which there is room where it has no bound
  abbrev pub MayBring : ℕ → List Feed → Named R → Option (Pass Element) → Type 0
  MayBring k es s (Some p) = MayEnter limits s p es × (number p ≡ k) × (bound ≡ 0 → HasAllRoom s.given)
  MayBring k es s None = ⊥

  -- ring k has pass k of each squeue, with which it may enter all its feeds
  abbrev pub MayRun : List (Named R) → List Bringer → Type 0
  MayRun squeues rings = (k : ℕ) (d : Bringer) → k < length rings
      → AtEach (MayBring k (slice_index_or rings k d).feeds.items) squeues (slice_index_or rings k d).passes.items
