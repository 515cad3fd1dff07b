-- The making of a run.
use Rattle.std.specs.Prelude.{◌≡◌, ◌<◌, ◌≤◌, ℕ, All, false, true, List, [], length, slice_index, slice_index_or, vec_capacity}
use Rattle.turn_gate.specs.Passes.{IsPassOf, number, seen}
use Rattle.turn_gate.specs.declared.pass.Pass.{Pass}
use Rattle.perimeter_core.specs.History.{Element, Limits, feed_quota}
use Rattle.squeue_state.specs.Naming.{Named, setting_of}
use Rattle.histories.specs.Elements.{number_of}
use Rattle.squeue_state.specs.AllRoom.{HasAllRoom}
use Rattle.squeue_bench.specs.declared.threads.Bringer.{Bringer}
use Rattle.squeue_bench.specs.Rows.{IsRow}
use Rattle.squeue_bench.specs.Places.{AtEach, MayBring}

-- the squeue has room for all that its rings enter where it has no bound, a ring for each pass but the worker's, and the key of each ring,
-- which is here, has so many items
pub record Suits {R : Type 0} (limits : R → Limits) (bound items : ℕ) (s : Named R) : Type 0 where
  pub its_rings : s.given.rings ≡ length s.given.quotas
  pub room : bound ≡ 0 → HasAllRoom s.given
  pub here : (k : ℕ) → k < length s.given.quotas → slice_index_or s.given.starts k false ≡ true
  pub quota : (k : ℕ) → k < length s.given.quotas → feed_quota (setting_of limits s.given) k ≡ items
  pub limit : (k : ℕ) → k < length s.given.quotas → slice_index (limits s.given.first).feeds k ≡ items

-- pass k of the squeue, which has seen nothing
pub record IsNewPass {R : Type 0} (k : ℕ) (s : Named R) (p : Pass Element) : Type 0 where
  pub is_pass : IsPassOf number_of s.gate p
  pub its_number : number p ≡ k
  pub nothing_seen : seen p ≡ []

-- ring k brings the items of key k, has a new pass at each squeue, and room for its passes at n squeues
pub record IsReady {R : Type 0} (limits : R → Limits) (bound items n : ℕ) (squeues : List (Named R)) (k : ℕ) (r : Bringer) : Type 0 where
  pub row : IsRow k items r.feeds.items
  pub places : AtEach (MayBring limits bound k r.feeds.items) squeues r.passes.items
  pub room : n ≤ vec_capacity r.passes

abbrev pub AreReady : {R : Type 0} → (R → Limits) → ℕ → ℕ → ℕ → List (Named R) → List Bringer → Type 0
AreReady limits bound items n squeues rings = (k : ℕ) (d : Bringer) → k < length rings → IsReady limits bound items n squeues k (slice_index_or rings k d)

-- each squeue has so many passes beside the worker's
abbrev pub HavePasses : {R : Type 0} → ℕ → List (Named R) → Type 0
HavePasses n squeues = All (λ s. length s.given.quotas ≡ n) squeues
