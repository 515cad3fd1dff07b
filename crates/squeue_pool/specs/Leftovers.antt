-- What squeues leave that have ended.
use Rattle.std.specs.Prelude.{◌≡◌, ℕ, ◌+◌, ◌<◌, if◌then◌else◌, Option, Some, List, [], ◌∷◌, length, map, slice_get}
use Rattle.turn_gate.specs.declared.pass.Pass.{Pass}
use Rattle.perimeter_core.specs.declared.resident.Resident.{Ghosts}
use Rattle.perimeter_core.specs.History.{Element}
use Rattle.perimeter_core.specs.Blocks.{peri}
use Rattle.squeue_state.specs.Behind.{IsPeri}
use Rattle.squeue_state.specs.Clauses.{Knows}
use Rattle.histories.specs.Endings.{HasEnded}
use Rattle.squeue_state.specs.Naming.{Named, setting_of}
use Rattle.squeue_state.specs.Told.{marks_of}
use Rattle.squeue_pool.specs.declared.work.Left.{Left}

module _ {R P O : Type 0} (G : Ghosts R P O) (front count : ℕ) (lent : ℕ → List (Option (Pass Element))) where
  -- Squeue number q of those lent has left this: its number and setting are those with which it was made, each of its passes that is lent
  -- by number has seen a beginning of its history, and made what there carries its number, and so has its worker's; and the resident
  -- stands for what it did
  pub record Leaves (q : ℕ) (s : Named R) (v : Left R) : Type 0 where
    pub its_number : v.end.number ≡ s.given.number
    pub its_setting : v.end.setting ≡ setting_of G.limits s.given
    pub ended : HasEnded v.end
    pub knows : (p : ℕ) → p < count → (x : Pass Element) × (slice_get (lent (front + p)) q ≡ Some (Some x)) × Knows v.end.history x
    pub worker : (x : Pass Element) × (lent (front + count + q) ≡ Some x ∷ []) × Knows v.end.history x
    pub resident : IsPeri G s.given v.resident (peri (setting_of G.limits s.given) v.end.history)
    pub trace : marks_of v.trace ≡ (if s.given.traced then map (λ m. m.mark) v.end.history else [])

  -- each of the squeues has
  pub record HaveLeft (ss : List (Named R)) (vs : List (Left R)) : Type 0 where
    pub as_many : length vs ≡ length ss
    pub each : (q : ℕ) (s : Named R) (v : Left R) → slice_get ss q ≡ Some s → slice_get vs q ≡ Some v → Leaves q s v
