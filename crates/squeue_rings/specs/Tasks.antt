-- What the threads of a run have to do, and what comes in by its rings.
use Rattle.std.specs.Prelude.{◌≡◌, ℕ, ◌+◌, ◌<◌, List, MatchOption, Option, Some, Vec, [], length, map, option_map, slice_get, slice_index_or}
use Rattle.std.specs.declared.alloc.Global.{Global}
use Rattle.perimeter_core.specs.declared.entries.Feed.{Feed}
use Rattle.poll_ring.specs.Rings.{FeedCount, PollCount, RingSize}
use Rattle.squeue_rings.specs.declared.intake.IntakeEnds.{IntakeEnds}
use Rattle.squeue_rings.specs.declared.intake.Intake.{Intake}
use Rattle.squeue_rings.specs.declared.task.RingTask.{RingTask}
use Rattle.squeue_rings.specs.declared.task.Task.{Task}
use Rattle.squeue_rings.specs.declared.task.Task.TheVariants as Task'

-- the feeds of the intake with this number; beyond the intakes there are none
abbrev pub lists_of : List Intake → ℕ → List Feed
lists_of intakes r = slice_index_or (map (λ l. l.list.items) intakes) r []

-- the ends of a receive ring into which nothing was put yet
abbrev pub feed_end : RingSize → FeedCount
feed_end g = record { ring = g.ring; put = 0 }

abbrev pub poll_end : RingSize → PollCount
poll_end g = record { ring = g.ring; popped = 0 }

-- the end that puts when all numbers were put
abbrev pub full_end : RingSize → FeedCount
full_end g = record { ring = g.ring; put = g.capacity }

-- an intake's receive ring is for as many feeds as it has; where there are none it has no ring
abbrev pub HasRing : Intake → Type 0
HasRing l = MatchOption l.ring (l.list.items ≡ []) (λ g. g.capacity ≡ length l.list.items)

abbrev pub HaveRings : List Intake → Type 0
HaveRings intakes = (r : ℕ) (l : Intake) → slice_get intakes r ≡ Some l → HasRing l

-- there is an intake for each ring, and this is so of the ring's number and its feeds
pub record AreIntakes (P : ℕ → List Feed → Type 0) (rings : ℕ) (intakes : List Intake) : Type 0 where
  pub count : length intakes ≡ rings
  pub each : (r : ℕ) (l : Intake) → slice_get intakes r ≡ Some l → P r l.list.items

-- by the two ends of the intake's ring nothing was put and nothing taken
pub record IsUnused (e : IntakeEnds) : Type 0 where
  pub ring : HasRing e.intake
  pub feed : e.feed ≡ option_map feed_end e.intake.ring
  pub poll : e.poll ≡ option_map poll_end e.intake.ring

abbrev pub AreUnused : List IntakeEnds → Type 0
AreUnused es = (r : ℕ) (e : IntakeEnds) → slice_get es r ≡ Some e → IsUnused e

-- the task of an intake's ring: it has the ring's number, its end of the receive ring, and a flag for each squeue
pub record IsRingTask (squeues r : ℕ) (l : Intake) (t : RingTask) : Type 0 where
  pub number : t.number ≡ r
  pub end : t.end ≡ option_map poll_end l.ring
  pub polling : length t.polling.items ≡ squeues

-- the ends that put, one for each intake
abbrev pub AreEnds : List Intake → List (Option FeedCount) → Type 0
AreEnds intakes ends = ends ≡ map (λ l. option_map feed_end l.ring) intakes

-- the task of ring r stands at its place
abbrev pub HasRingTask : ℕ → ℕ → Intake → Option Task → Type 0
HasRingTask squeues r l o = (t : RingTask) × (o ≡ Some (Task'.Bring t)) × IsRingTask squeues r l t

-- there is a task for each intake's ring
pub record AreRingTasks (squeues : ℕ) (intakes : List Intake) (tasks : List Task) : Type 0 where
  pub count : length tasks ≡ length intakes
  pub each : (r : ℕ) (l : Intake) → slice_get intakes r ≡ Some l → HasRingTask squeues r l (slice_get tasks r)

-- There is an intake for each ring, with its receive ring; and by number a task for the feeder, for each ring, for each of so many
-- application threads, and for the worker of each squeue
pub record AreTasks (rings callers squeues : ℕ) (intakes : List Intake) (tasks : List Task) : Type 0 where
  pub intakes_are : length intakes ≡ rings
  pub have : HaveRings intakes
  pub count : length tasks ≡ 1 + (rings + callers) + squeues
  pub feeder : (ends : Vec (Option FeedCount) Global) × (slice_get tasks 0 ≡ Some (Task'.Feed ends)) × AreEnds intakes ends.items
  pub rings_are : (r : ℕ) (l : Intake) → slice_get intakes r ≡ Some l → HasRingTask squeues r l (slice_get tasks (1 + r))
  pub callers_are : (j : ℕ) → j < callers → slice_get tasks (1 + (rings + j)) ≡ Some (Task'.Call j)
  pub workers : (q : ℕ) → q < squeues → slice_get tasks (1 + (rings + callers) + q) ≡ Some (Task'.Drain q)
