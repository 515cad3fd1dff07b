-- Passes that are lent to jobs.
use Rattle.std.specs.Prelude.{◌≡◌, ◌≢◌, ℕ, ◌+◌, ◌<◌, ◌≤◌, ◌==◌, if◌then◌else◌, All, Option}
use Rattle.std.specs.Prelude.{Some, List, [], ◌∷◌, ◌++◌, Vec, length, map, slice_get, slice_index_or, vec_capacity}
use Rattle.turn_gate.specs.History.{Each}
use Rattle.turn_gate.specs.declared.pass.Pass.{Pass}
use Rattle.perimeter_core.specs.declared.resident.Resident.{Ghosts}
use Rattle.perimeter_core.specs.History.{Element}
use Rattle.perimeter_core.specs.Blocks.{peri}
use Rattle.squeue_state.specs.Told.{Traced, marks_of}
use Rattle.squeue_state.specs.Naming.{Named, setting_of}
use Rattle.histories.specs.Endings.{Ending, HasEnded}
use Rattle.squeue_state.specs.Behind.{IsPeri}
use Rattle.squeue_state.specs.Clauses.{Knows}
use Rattle.squeue_serve.specs.declared.jobs.Job.{Job}
use Rattle.squeue_serve.specs.Places.{Holds, AtEach}

-- the tasks of jobs
abbrev pub tasks_in : {T : Type 0} → List (Job T) → List T
tasks_in jobs = map (λ j. j.task) jobs

-- what stands in the places of the job at each number; where there is no job, nothing
abbrev pub lent_to : {T : Type 0} → List (Job T) → ℕ → List (Option (Pass Element))
lent_to jobs i = slice_index_or (map (λ j. j.places.items) jobs) i []

-- Behind the first `front` jobs, which are lent nothing, stands one for each number below `count`, which is lent the pass of that
-- number of each squeue. Behind those stands one for each squeue, which is lent its last pass, the worker's
abbrev pub holder : ℕ → ℕ → ℕ → ℕ → ℕ
holder front count q p = if p == count then front + count + q else front + p

-- each worker's job has one pass, of which this is so by its number and its squeue
abbrev pub WorkersHold : {R : Type 0} → (ℕ → Named R → Pass Element → Type 0) → ℕ → ℕ → List (Named R) → (ℕ → List (Option (Pass Element))) → Type 0
WorkersHold {R} P front count squeues lent = (q : ℕ) (s : Named R) → slice_get squeues q ≡ Some s → (x : Pass Element)
    × (lent (front + count + q) ≡ Some x ∷ []) × P count s x

-- So it is after the squeues are lent: this is so of each pass, by its number and its squeue
pub record AreLent {R : Type 0} (P : ℕ → Named R → Pass Element → Type 0) (front count : ℕ) (squeues : List (Named R))
    (lent : ℕ → List (Option (Pass Element))) : Type 0 where
  pub counts : Each (λ (s : Named R). length s.given.quotas ≡ count) squeues
  pub others : (p : ℕ) → p < count → AtEach (λ s o. Holds (P p s) o) squeues (lent (front + p))
  pub workers : WorkersHold P front count squeues lent
  pub first_none : (i : ℕ) → i < front → lent i ≡ []
  pub last_none : (i : ℕ) → front + count + length squeues ≤ i → lent i ≡ []

-- Passes by number are lent as those of squeue q: before, and with them at the end of their jobs' places
pub record AreHanded (front count q : ℕ) (passes : List (Pass Element)) (without having : ℕ → List (Option (Pass Element))) : Type 0 where
  pub all : length passes ≡ count + 1
  pub each : (p : ℕ) → p ≤ count → (x : Pass Element) × (slice_get passes p ≡ Some x)
      × (having (holder front count q p) ≡ without (holder front count q p) ++ Some x ∷ [])
  pub rest : (i : ℕ) → ((p : ℕ) → p ≤ count → i ≢ holder front count q p) → having i ≡ without i

-- there is a pass to take back from each of the jobs of squeue q
abbrev pub HaveLast : ℕ → ℕ → ℕ → (ℕ → List (Option (Pass Element))) → Type 0
HaveLast front count q lent = (p : ℕ) → p ≤ count → (before : List (Option (Pass Element))) × (x : Pass Element)
    × (lent (holder front count q p) ≡ before ++ Some x ∷ [])

-- each job has room for so many passes
abbrev pub HaveRoom : {T : Type 0} → ℕ → List (Job T) → Type 0
HaveRoom n jobs = All (λ j. n ≤ vec_capacity j.places) jobs

-- there is empty room for n passes
abbrev pub IsRoomFor : {A : Type 0} → ℕ → Vec (Pass Element) A → Type 0
IsRoomFor n v = (v.items ≡ []) × (n ≤ vec_capacity v)

-- The squeue ended: all its passes came back, its end is that of its setting, each pass has seen a beginning of its history and
-- made what there carries its number, and the resident stands for what the history did
pub record HasCome {R P O : Type 0} (G : Ghosts R P O) (front count q : ℕ) (s : Named R)
    (having without : ℕ → List (Option (Pass Element))) (r : R) (e : Ending) (t : Traced) : Type 0 where
  pub passes : List (Pass Element)
  pub handed : AreHanded front count q passes without having
  pub its_number : e.number ≡ s.given.number
  pub its_setting : e.setting ≡ setting_of G.limits s.given
  pub ended : HasEnded e
  pub knows : Each (Knows e.history) passes
  pub resident : IsPeri G s.given r (peri (setting_of G.limits s.given) e.history)
  pub trace : marks_of t ≡ (if s.given.traced then map (λ m. m.mark) e.history else [])
