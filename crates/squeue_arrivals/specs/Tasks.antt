-- What the threads of one squeue need, and what they leave.
use Rattle.std.specs.Prelude.{◌≡◌, ℕ, ◌+◌, ◌*◌, ◌^◌, ◌<◌, ◌≤◌, Option, Some, None, List, [], ◌∷◌, ◌++◌, length, map, replicate, slice_get, vec_capacity}
use Rattle.turn_gate.specs.Passes.{IsPassOf, number, seen}
use Rattle.turn_gate.specs.declared.pass.Pass.{Pass}
use Rattle.perimeter_core.specs.History.{Element, Limits, worker}
use Rattle.perimeter_core.specs.Legal.{asks_by}
use Rattle.placed_parts.specs.declared.parts.Parts.{Ghosts}
use Rattle.placed_parts.specs.declared.places.Places.{Places}
use Rattle.placed_parts.specs.Placing.{limits_of, origin_of}
use Rattle.squeue_state.specs.Naming.{Named, setting_of}
use Rattle.histories.specs.Elements.{number_of}
use Rattle.squeue_serve.specs.declared.jobs.Job.{Job}
use Rattle.squeue_serve.specs.Places.{MayEnd}
use Rattle.squeue_streams.specs.declared.streams.Stream.{Stream}
use Rattle.stream_stays.specs.Places.{life_of}
use Rattle.squeue_arrivals.specs.declared.served.ServedSource.{ServedSource}
use Rattle.squeue_arrivals.specs.declared.steps.Keyed.{Keyed}
use Rattle.squeue_arrivals.specs.declared.ring.Ring.{Ring}
use Rattle.squeue_arrivals.specs.declared.ring.RingTask.{RingTask}
use Rattle.squeue_arrivals.specs.declared.ring.RingTask.TheVariants as Task'
use Rattle.squeue_arrivals.specs.Keeping.{HasKeys}
use Rattle.squeue_arrivals.specs.Placed.{IsWithoutKeys, keys_in, most_in}
use Rattle.squeue_arrivals.specs.Seating.{AreNewStays, IsIdle, room_of}
use Rattle.squeue_arrivals.specs.Watching.{MayLook}
use Rattle.squeue_arrivals.specs.declared.watching.Watched.{Watched}

module _ {T S A : Type 0} where
  -- ring k of so many, at a squeue with so much room, has its own of the places with these parts, so many, where no key was ever; no key has
  -- one, and there is room for as many parts
  pub record IsNewRing (rings most room : ℕ) (parts : List (Stream T S)) (k : ℕ) (ring : Ring T S A) : Type 0 where
    pub stays : AreNewStays rings k room parts ring.stays
    pub count : length parts ≡ rings * most
    pub keys : IsWithoutKeys rings k most ring.keys
    pub parts_room : (ring.room.items ≡ []) × (most ≤ vec_capacity ring.room)

  -- there is one for each of these sources, by number
  pub record AreNewRings (most room : ℕ) (parts : List (Stream T S)) (sources : List A) (rings : List (Ring T S A)) : Type 0 where
    pub sources_are : map (λ r. r.source) rings ≡ sources
    pub each : (k : ℕ) (ring : Ring T S A) → slice_get rings k ≡ Some ring → IsNewRing (length sources) most room parts k ring

module _ {T S A Z : Type 0} where
  -- there is a task for each pass, by number: a new ring's for each source, then that of each who looks, and then that of the worker
  abbrev pub IsNewTask : ℕ → ℕ → ℕ → ℕ → List (Stream T S) → ℕ → RingTask T S A Z → Type 0
  IsNewTask rings passes most room parts c (Task'.Serve ring) = (c < rings) × IsNewRing rings most room parts c ring
  IsNewTask rings passes most room parts c (Task'.Served ended) = ⊥
  IsNewTask rings passes most room parts c Task'.Watch = (rings ≤ c) × (c < passes)
  IsNewTask rings passes most room parts c (Task'.Watched w) = ⊥
  IsNewTask rings passes most room parts c Task'.Work = c ≡ passes

  pub record AreNewTasks (rings passes most room : ℕ) (parts : List (Stream T S)) (tasks : List (RingTask T S A Z)) : Type 0 where
    pub count : length tasks ≡ passes + 1
    pub each : (c : ℕ) (t : RingTask T S A Z) → slice_get tasks c ≡ Some t → IsNewTask rings passes most room parts c t

  -- the tasks of rings, behind them those of so many who look, and the worker's
  abbrev pub tasks_for : ℕ → List (Ring T S A) → List (RingTask T S A Z)
  tasks_for lookers rings = map (λ r. Task'.Serve r) rings ++ (replicate lookers Task'.Watch ++ Task'.Work ∷ [])

  -- what is left of the sources of some tasks, and what is left of who looked
  abbrev pub ended_of : List (RingTask T S A Z) → List (ServedSource A T S)
  ended_of [] = []
  ended_of (Task'.Serve ring ∷ ts) = ended_of ts
  ended_of (Task'.Served ended ∷ ts) = ended ∷ ended_of ts
  ended_of (Task'.Watch ∷ ts) = ended_of ts
  ended_of (Task'.Watched w ∷ ts) = ended_of ts
  ended_of (Task'.Work ∷ ts) = ended_of ts

  abbrev pub watched_of : RingTask T S A Z → Option (Watched Z) → Option (Watched Z)
  watched_of (Task'.Serve ring) o = o
  watched_of (Task'.Served ended) o = o
  watched_of Task'.Watch o = o
  watched_of (Task'.Watched w) o = Some w
  watched_of Task'.Work o = o

  abbrev pub watched_in : List (RingTask T S A Z) → Option (Watched Z)
  watched_in [] = None
  watched_in (t ∷ ts) = watched_of t (watched_in ts)

  module _ (P : A → ServedSource A T S → Type 0) (Q : Watched Z → Type 0) where
    -- a task is done
    abbrev pub HasDone : RingTask T S A Z → RingTask T S A Z → Type 0
    HasDone (Task'.Serve ring) (Task'.Serve new) = ⊥
    HasDone (Task'.Serve ring) (Task'.Served ended) = P ring.source ended
    HasDone (Task'.Serve ring) Task'.Watch = ⊥
    HasDone (Task'.Serve ring) (Task'.Watched w) = ⊥
    HasDone (Task'.Serve ring) Task'.Work = ⊥
    HasDone (Task'.Served ended) new = ⊥
    HasDone Task'.Watch (Task'.Serve new) = ⊥
    HasDone Task'.Watch (Task'.Served ended) = ⊥
    HasDone Task'.Watch Task'.Watch = ⊥
    HasDone Task'.Watch (Task'.Watched w) = Q w
    HasDone Task'.Watch Task'.Work = ⊥
    HasDone (Task'.Watched w) new = ⊥
    HasDone Task'.Work (Task'.Serve new) = ⊥
    HasDone Task'.Work (Task'.Served ended) = ⊥
    HasDone Task'.Work Task'.Watch = ⊥
    HasDone Task'.Work (Task'.Watched w) = ⊥
    HasDone Task'.Work Task'.Work = Unit {0}

    -- all of them are
    pub record AreDone (olds news : List (RingTask T S A Z)) : Type 0 where
      pub many : length news ≡ length olds
      pub each : (k : ℕ) (t u : RingTask T S A Z) → slice_get olds k ≡ Some t → slice_get news k ≡ Some u → HasDone t u

-- the pass that lies in one place, where there is no other
abbrev pub pass_in : List (Option (Pass Element)) → Option (Pass Element)
pass_in [] = None
pass_in (o ∷ []) = o
pass_in (o ∷ n ∷ os) = None

module _ {R P W T S A : Type 0} {G : Ghosts R P (Keyed W T S)} (step : Keyed W T S → S → T → S → Type 0) (s : Named (Places R P (Keyed W T S) G)) (most : ℕ) where
  -- A ring with so many places may serve by this pass, which knows them and has a whole life: no key has one, what it enters at once fits the
  -- squeue, and there is room for the parts
  pub record MayServe (p : Pass Element) (ring : Ring T S A) : Type 0 where
    pub keys : HasKeys step limits_of s (origin_of s.given.first) [] p ring.stays ring.keys
    pub none : keys_in ring.keys ≡ []
    pub is_most : most_in ring.keys ≡ most
    pub its_number : ring.keys.number ≡ number p
    pub its_rings : ring.keys.rings ≡ s.given.rings
    pub asks : 2 ^ 52 ≤ (life_of ring.stays).asks
    pub idle : IsIdle (room_of s.given) ring.stays
    pub room : (ring.room.items ≡ []) × (most ≤ vec_capacity ring.room)

  -- what a task needs of its pass: a ring's knows the ring's places, one that looks hasn't yet, and the last one is the worker's
  abbrev pub MayRun : {Z : Type 0} → RingTask T S A Z → Pass Element → Type 0
  MayRun (Task'.Serve ring) p = MayServe p ring
  MayRun (Task'.Served ended) p = ⊥
  MayRun Task'.Watch p = MayLook limits_of s (2 ^ 32) p × (asks_by (number p) (seen p) ≡ 0)
  MayRun (Task'.Watched w) p = ⊥
  MayRun Task'.Work p = IsPassOf number_of s.gate p × (number p ≡ worker (setting_of limits_of s.given))

  abbrev pub ReadyFor : {Z : Type 0} → RingTask T S A Z → Option (Pass Element) → Type 0
  ReadyFor task None = ⊥
  ReadyFor task (Some p) = MayRun task p

  -- the job has a pass for its task
  abbrev pub IsReady : {Z : Type 0} → Job (RingTask T S A Z) → Type 0
  IsReady j = ReadyFor j.task (pass_in j.places.items)

-- what is left of a source, and of who looked, knows the pass that is left
abbrev pub KnowsPass : {T S A Z : Type 0} → RingTask T S A Z → Option (Pass Element) → Type 0
KnowsPass (Task'.Serve ring) o = Unit {0}
KnowsPass (Task'.Served ended) o = o ≡ Some ended.pass.value
KnowsPass Task'.Watch o = Unit {0}
KnowsPass (Task'.Watched w) o = o ≡ Some w.pass.value
KnowsPass Task'.Work o = Unit {0}

module _ {R : Type 0} (limits : R → Limits) (s : Named R) where
  -- a pass that may end came of one with its number
  abbrev pub EndedFrom : Option (Pass Element) → Option (Pass Element) → Type 0
  EndedFrom (Some p) (Some q) = MayEnd limits (number p) s q
  EndedFrom (Some p) None = ⊥
  EndedFrom None q = ⊥

  -- the job is done
  abbrev pub Ran : {T S A Z : Type 0} → (A → ServedSource A T S → Type 0) → (Watched Z → Type 0) → Job (RingTask T S A Z) → Job (RingTask T S A Z) → Type 0
  Ran P Q old new = EndedFrom (pass_in old.places.items) (pass_in new.places.items) × HasDone P Q old.task new.task × KnowsPass new.task (pass_in new.places.items)
