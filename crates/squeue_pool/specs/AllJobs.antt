-- What new squeues need so that the threads of a run can do their work, and what is known by their passes when they have.
use Rattle.std.specs.Prelude.{◌≡◌, ℕ, ◌+◌, ◌<◌, ◌^◌, Option, Some, List, [], ◌∷◌, length, slice_get}
use Rattle.turn_gate.specs.History.{Each}
use Rattle.turn_gate.specs.declared.pass.Pass.{Pass}
use Rattle.perimeter_core.specs.declared.resident.Resident.{Ghosts}
use Rattle.perimeter_core.specs.History.{Element}
use Rattle.squeue_state.specs.Naming.{Named}
use Rattle.squeue_rings.specs.Bringing.{AllBelow, AreOneRun, MayBringAll}
use Rattle.squeue_rings.specs.Calling.{MayMakeEach}
use Rattle.squeue_rings.specs.Paced.{ArePaced}
use Rattle.squeue_rings.specs.Starts.{StartAtHome}
use Rattle.squeue_rings.specs.declared.intake.Intake.{Intake}
use Rattle.squeue_rings.specs.Ends.{CallersEnd, CallersKeep, RingsEnd, WorkerEnds}
use Rattle.squeue_rings.specs.Doing.{called_by}
use Rattle.squeue_rings.specs.Tasks.{lists_of}
use Rattle.squeue_pool.specs.declared.pool.Pool.{Pool}

module _ {R P O : Type 0} (G : Ghosts R P O) (pool : Pool) (intakes : List Intake) (calls : List (List ℕ)) (ss : List (Named R)) where
  -- the squeues are those of one run, with at most so many connections, which are at home at first; and each lets the rings bring their
  -- intakes, and the application threads make their calls
  pub record MayRun (conns : ℕ) : Type 0 where
    pub one : AreOneRun G.origin pool.pace.homes.squeues ss
    pub below : AllBelow conns ss
    pub rings_same : Each (λ (s : Named R). s.given.rings ≡ pool.rings) ss
    pub starts : StartAtHome G.limits pool.pace.homes.squeues ss
    pub bring : (r : ℕ) (l : Intake) → slice_get intakes r ≡ Some l
        → MayBringAll G.limits pool.pace.homes.squeues pool.pace.homes.spread r l.list.items ss
    pub short : (j : ℕ) → length (called_by calls j) < 2 ^ 32
    pub make : (j : ℕ) → MayMakeEach G.limits j (called_by calls j) ss

  -- By the passes that are lent from number 1 on, each ring has brought its intake, as the pool has it, and each application thread has made
  -- its calls, and left only with these, or where a block was gone; and each worker left nothing
  pub record AllDone (lent : ℕ → List (Option (Pass Element))) : Type 0 where
    pub rings_end : (r : ℕ) → r < pool.rings
        → RingsEnd G.limits pool.pace.homes.squeues pool.pace.homes.spread r (lists_of intakes r) ss (lent (1 + r))
    pub paced : (r : ℕ) → r < pool.rings
        → ArePaced G.limits pool.pace.homes.squeues pool.pace.homes.spread pool.pace.mode pool.pace.budget r ss (lent (1 + r))
    pub callers_end : (j : ℕ) → j < length calls → CallersEnd j (called_by calls j) ss (lent (1 + (pool.rings + j)))
    pub callers_keep : (j : ℕ) → j < length calls → CallersKeep G.limits j ss (lent (1 + (pool.rings + j)))
    pub workers_end : (q : ℕ) (s : Named R) → slice_get ss q ≡ Some s
        → (x : Pass Element) × (lent (1 + (pool.rings + length calls) + q) ≡ Some x ∷ []) × WorkerEnds G.limits (pool.rings + length calls) s x
