-- What the threads of one squeue need, and what they leave.
use Rattle.std.specs.Prelude.{◌≡◌, ℕ, ◌+◌, ◌<◌, Option, Some, None, List, [], ◌∷◌, ◌++◌, length, map, slice_get}
use Rattle.turn_gate.specs.Passes.{IsPassOf, number}
use Rattle.turn_gate.specs.declared.pass.Pass.{Pass}
use Rattle.perimeter_core.specs.History.{Element, Limits, worker}
use Rattle.placed_parts.specs.declared.parts.Parts.{Ghosts}
use Rattle.placed_parts.specs.declared.places.Places.{Places}
use Rattle.placed_parts.specs.Placing.{limits_of, origin_of}
use Rattle.squeue_state.specs.Naming.{Named, setting_of}
use Rattle.histories.specs.Elements.{number_of}
use Rattle.squeue_serve.specs.declared.jobs.Job.{Job}
use Rattle.squeue_serve.specs.Places.{MayEnd}
use Rattle.squeue_streams.specs.declared.streams.Stream.{Stream}
use Rattle.stream_stays.specs.Places.{Knows, chain_of, touched_of}
use Rattle.live_chats.specs.Hearing.{ChatOf}
use Rattle.live_chats.specs.Telling.{IsFirst, Tells}
use Rattle.live_chats.specs.declared.chats.Chats.{Chats}
use Rattle.live_chats.specs.declared.item.ChatItem.{ChatItem}
use Rattle.live_rings.specs.declared.ending.EndedRing.{EndedRing}
use Rattle.live_rings.specs.declared.ending.Ends.{Ends}
use Rattle.live_rings.specs.declared.ring.RingThread.{RingThread}
use Rattle.live_rings.specs.declared.ring.ServerTask.{ServerTask}
use Rattle.live_rings.specs.declared.ring.ServerTask.TheVariants as Task'
use Rattle.live_rings.specs.Seating.{AreNewStays, numbers_of}

module _ {S K : Type 0} where
  -- ring k of so many has its own of the places with these parts, where nobody was ever; so many of them are free
  abbrev pub IsNewRing : ℕ → ℕ → List (Stream ChatItem ChatOf) → ℕ → RingThread S K → Type 0
  IsNewRing rings places parts k ring = AreNewStays rings k parts ring.stays × (ring.free.items ≡ numbers_of rings k places)

  -- there is one for each of these ends, by number, with so many places
  pub record AreNewRings (places : ℕ) (parts : List (Stream ChatItem ChatOf)) (ends : List (Ends S K)) (rings : List (RingThread S K)) : Type 0 where
    pub ends_are : map (λ r. r.ends) rings ≡ ends
    pub each : (k : ℕ) (ring : RingThread S K) → slice_get rings k ≡ Some ring → IsNewRing (length ends) places parts k ring

  -- there is a task for each pass, by number: a new ring's of each stream, and then that of the worker
  abbrev pub IsNewTask : ℕ → ℕ → List (Stream ChatItem ChatOf) → ℕ → ServerTask S K → Type 0
  IsNewTask rings places parts c (Task'.Serve ring) = (c < rings) × IsNewRing rings places parts c ring
  IsNewTask rings places parts c (Task'.Served ended) = ⊥
  IsNewTask rings places parts c Task'.Work = c ≡ rings

  pub record AreNewTasks (rings places : ℕ) (parts : List (Stream ChatItem ChatOf)) (tasks : List (ServerTask S K)) : Type 0 where
    pub count : length tasks ≡ rings + 1
    pub each : (c : ℕ) (t : ServerTask S K) → slice_get tasks c ≡ Some t → IsNewTask rings places parts c t

  -- the tasks of rings, and behind them the worker's
  abbrev pub tasks_for : List (RingThread S K) → List (ServerTask S K)
  tasks_for rings = map (λ r. Task'.Serve r) rings ++ Task'.Work ∷ []

  -- what is left of the streams of some tasks
  abbrev pub ended_of : List (ServerTask S K) → List (EndedRing S K)
  ended_of [] = []
  ended_of (Task'.Serve ring ∷ ts) = ended_of ts
  ended_of (Task'.Served ended ∷ ts) = ended ∷ ended_of ts
  ended_of (Task'.Work ∷ ts) = ended_of ts

  module _ (P : Ends S K → EndedRing S K → Type 0) where
    -- a task is done
    abbrev pub HasDone : ServerTask S K → ServerTask S K → Type 0
    HasDone (Task'.Serve ring) (Task'.Serve new) = ⊥
    HasDone (Task'.Serve ring) (Task'.Served ended) = P ring.ends ended
    HasDone (Task'.Serve ring) Task'.Work = ⊥
    HasDone (Task'.Served ended) new = ⊥
    HasDone Task'.Work (Task'.Serve new) = ⊥
    HasDone Task'.Work (Task'.Served ended) = ⊥
    HasDone Task'.Work Task'.Work = Unit {0}

    -- all of them are
    pub record AreDone (olds news : List (ServerTask S K)) : Type 0 where
      pub many : length news ≡ length olds
      pub each : (k : ℕ) (t u : ServerTask S K) → slice_get olds k ≡ Some t → slice_get news k ≡ Some u → HasDone t u

-- the pass that lies in one place, where there is no other
abbrev pub pass_in : List (Option (Pass Element)) → Option (Pass Element)
pass_in [] = None
pass_in (o ∷ []) = o
pass_in (o ∷ n ∷ os) = None

module _ {R P : Type 0} {G : Ghosts R P Chats} (s : Named (Places R P Chats G)) where
  -- a ring may serve by this pass, which knows its places; nothing is pushed
  abbrev pub MayServe : {S K : Type 0} → Pass Element → RingThread S K → Type 0
  MayServe p ring = Knows IsFirst Tells limits_of s (origin_of s.given.first) p ring.stays × (chain_of ring.stays ≡ []) × (touched_of ring.stays ≡ [])

  -- what a task needs of its pass: a ring's knows the ring's places, and the other one is the worker's
  abbrev pub MayRun : {S K : Type 0} → ServerTask S K → Pass Element → Type 0
  MayRun (Task'.Serve ring) p = MayServe p ring
  MayRun (Task'.Served ended) p = ⊥
  MayRun Task'.Work p = IsPassOf number_of s.gate p × (number p ≡ worker (setting_of limits_of s.given))

  abbrev pub ReadyFor : {S K : Type 0} → ServerTask S K → Option (Pass Element) → Type 0
  ReadyFor task None = ⊥
  ReadyFor task (Some p) = MayRun task p

  -- the job has a pass for its task
  abbrev pub IsReady : {S K : Type 0} → Job (ServerTask S K) → Type 0
  IsReady j = ReadyFor j.task (pass_in j.places.items)

-- what is left of a stream knows the pass that is left
abbrev pub KnowsPass : {S K : Type 0} → ServerTask S K → Option (Pass Element) → Type 0
KnowsPass (Task'.Serve ring) o = Unit {0}
KnowsPass (Task'.Served ended) o = o ≡ Some ended.pass.value
KnowsPass Task'.Work o = Unit {0}

module _ {R : Type 0} (limits : R → Limits) (s : Named R) where
  -- a pass that may end came of one with its number
  abbrev pub EndedFrom : Option (Pass Element) → Option (Pass Element) → Type 0
  EndedFrom (Some p) (Some q) = MayEnd limits (number p) s q
  EndedFrom (Some p) None = ⊥
  EndedFrom None q = ⊥

  -- the job is done
  abbrev pub Ran : {S K : Type 0} → (Ends S K → EndedRing S K → Type 0) → Job (ServerTask S K) → Job (ServerTask S K) → Type 0
  Ran P old new = EndedFrom (pass_in old.places.items) (pass_in new.places.items) × HasDone P old.task new.task × KnowsPass new.task (pass_in new.places.items)
