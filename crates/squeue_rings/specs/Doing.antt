-- What a thread needs for its task, and what it has done by it.
use Rattle.std.specs.Prelude.{◌≡◌, ℕ, ◌+◌, ◌<◌, ◌^◌, All, List, Option, Some, [], ◌∷◌, get_or, length, slice_get, slice_index_or}
use Rattle.turn_gate.specs.History.{Each}
use Rattle.turn_gate.specs.declared.pass.Pass.{Pass}
use Rattle.perimeter_core.specs.History.{Element, Limits}
use Rattle.squeue_state.specs.Naming.{Named}
use Rattle.squeue_serve.specs.declared.jobs.Job.{Job}
use Rattle.squeue_serve.specs.Places.{AtEach, AtEachTwo, Became, HasClosed, HasWorked, Holds, IsNew, MayWork}
use Rattle.histories.specs.declared.mode.Mode.{Mode}
use Rattle.squeue_rings.specs.Bringing.{AreAt, MayBringAll}
use Rattle.squeue_rings.specs.Calling.{CallersAt, MayMakeEach}
use Rattle.squeue_rings.specs.Paced.{ArePaced}
use Rattle.squeue_rings.specs.declared.intake.Intake.{Intake}
use Rattle.squeue_rings.specs.declared.task.RingTask.{RingTask}
use Rattle.squeue_rings.specs.declared.task.Task.{Task}
use Rattle.squeue_rings.specs.declared.task.Task.TheVariants as Task'
use Rattle.squeue_rings.specs.Tasks.{AreEnds, HasRing, IsRingTask, lists_of}

module _ {R : Type 0} (limits : R → Limits) (squeues spread : ℕ) (intakes : List Intake) (ss : List (Named R)) where
  -- A ring is to bring its intake, of which nothing has been brought: the quotas suffice for it
  pub record MayBringIntake (t : RingTask) (places : List (Option (Pass Element))) : Type 0 where
    pub intake : Intake
    pub is_intake : slice_get intakes t.number ≡ Some intake
    pub ring : HasRing intake
    pub task : IsRingTask squeues t.number intake t
    pub may : MayBringAll limits squeues spread t.number intake.list.items ss
    pub new : AtEach (λ s o. Holds (IsNew t.number s) o) ss places
    pub at : AreAt limits squeues spread t.number ss [] [] places

module _ {R : Type 0} (limits : R → Limits) (squeues spread : ℕ) (mode : Mode) (budget : ℕ) (intakes : List Intake) (ss : List (Named R)) where
  -- a ring has brought all feeds of its intake, and by its marks kept the homes, the mode and the budget
  pub record HasBroughtIntake (r : ℕ) (places : List (Option (Pass Element))) : Type 0 where
    pub at : AreAt limits squeues spread r ss (lists_of intakes r) (lists_of intakes r) places
    pub paced : ArePaced limits squeues spread mode budget r ss places

-- the connections of the calls of thread j, in order, where those of each thread are given
abbrev pub called_by : List (List ℕ) → ℕ → List ℕ
called_by calls j = get_or calls j []

module _ {R : Type 0} (limits : R → Limits) (calls : List (List ℕ)) (ss : List (Named R)) where
  -- An application thread is to make its calls, of which none has been made: the quotas suffice for them
  pub record MayCallAll (j : ℕ) (places : List (Option (Pass Element))) : Type 0 where
    pub thread : j < length calls
    pub few : length (called_by calls j) < 2 ^ 32
    pub no_worker : Each (λ (s : Named R). s.given.rings + j < length s.given.quotas) ss
    pub may : MayMakeEach limits j (called_by calls j) ss
    pub at : CallersAt limits j [] ss places

module _ {R : Type 0} (limits : R → Limits) (ss : List (Named R)) where
  -- there were passes of which this was so, and then they were closed
  abbrev pub ThenClosed : (List (Option (Pass Element)) → Type 0) → List (Option (Pass Element)) → Type 0
  ThenClosed P places = (before : List (Option (Pass Element))) × P before × AtEachTwo (λ s o n. Became (HasClosed limits s) o n) ss before places

module _ {R : Type 0} (limits : R → Limits) (squeues spread : ℕ) (calls : List (List ℕ)) (intakes : List Intake) (ss : List (Named R)) where
  -- what a task needs of its places
  abbrev pub MayDo : Task → List (Option (Pass Element)) → Type 0
  MayDo (Task'.Feed ends) places = AreEnds intakes ends.items
  MayDo (Task'.Bring t) places = MayBringIntake limits squeues spread intakes ss t places
  MayDo (Task'.Call j) places = MayCallAll limits calls ss j places
  MayDo (Task'.Drain q) places = (s : Named R) × (x : Pass Element) × (slice_get ss q ≡ Some s) × (places ≡ Some x ∷ []) × MayWork limits s x

  abbrev pub MayDoAll : List (Job Task) → Type 0
  MayDoAll jobs = All (λ j. MayDo j.task j.places.items) jobs

module _ {R : Type 0} (limits : R → Limits) (squeues spread : ℕ) (mode : Mode) (budget : ℕ)
    (calls : List (List ℕ)) (intakes : List Intake) (ss : List (Named R)) where
  -- what a task has done by its places: a ring has brought all feeds of its intake, an application thread has made all its calls, a
  -- worker has seen the end
  abbrev pub HasDone : Task → List (Option (Pass Element)) → List (Option (Pass Element)) → Type 0
  HasDone (Task'.Feed ends) old new = new ≡ old
  HasDone (Task'.Bring t) old new = ThenClosed limits ss (HasBroughtIntake limits squeues spread mode budget intakes ss t.number) new
  HasDone (Task'.Call j) old new = ThenClosed limits ss (CallersAt limits j (called_by calls j) ss) new
  HasDone (Task'.Drain q) old new =
      (s : Named R) × (x : Pass Element) × (y : Pass Element) × (slice_get ss q ≡ Some s) × (old ≡ Some x ∷ []) × (new ≡ Some y ∷ []) × HasWorked limits s x y

  -- each job has done its task
  abbrev pub HaveDone : List (Job Task) → List (Job Task) → Type 0
  HaveDone old new = (k : ℕ) (d : Job Task) → k < length old
      → HasDone (slice_index_or old k d).task (slice_index_or old k d).places.items (slice_index_or new k d).places.items
