-- What a caller needs and knows: an application thread, which makes its calls one after another, each where its block is.
use Rattle.std.specs.Prelude.{◌≡◌, ◌⊎◌, ℕ, ◌+◌, ◌<◌, ◌≤◌, Bool, true, false, Contains, Option, Some, List, [], ◌∷◌, length, slice_get, slice_index, take}
use Rattle.turn_gate.specs.Passes.{IsPassOf, number, seen}
use Rattle.turn_gate.specs.declared.pass.Pass.{Pass}
use Rattle.perimeter_core.specs.declared.marks.SynchAct.TheVariants as Done
use Rattle.perimeter_core.specs.Perimeter.{Idle, is_here}
use Rattle.perimeter_core.specs.History.{Element, Limits, ask_quota, run}
use Rattle.perimeter_core.specs.Deeds.{times_left}
use Rattle.perimeter_core.specs.Legal.{Legal, asks_by}
use Rattle.squeue_state.specs.Naming.{Named, setting_of}
use Rattle.histories.specs.Elements.{number_of}
use Rattle.synch_enter.specs.declared.acts.Called.{Called}
use Rattle.synch_enter.specs.declared.acts.Called.TheVariants as Called'
use Rattle.synch_enter.specs.Synch.{MayAsk, NotFound}
use Rattle.conn_migrate.specs.Moving.{Moved}
use Rattle.squeue_serve.specs.Places.{AtEach, Holds}
use Rattle.squeue_rings.specs.Made.{made_in, once_on}
use Rattle.squeue_rings.specs.OwnMarks.{EachOwn, OfThread, next_call}
use Rattle.turn_gate.specs.History.{Each}

abbrev pub is_done : Called → Bool
is_done Called'.Done = true
is_done Called'.Elsewhere = false

module _ {R : Type 0} (limits : R → Limits) (s : Named R) where
  -- Thread j may try its call k on connection c: it may ask, and has such a call
  pub record MayTry (c j k : ℕ) (x : Pass Element) : Type 0 where
    pub may_ask : MayAsk limits s x
    pub thread : number x ≡ s.given.rings + j
    pub range : c < length s.given.starts
    pub exists : Contains (limits s.given.first).calls (c, j, k)

  -- The block was there when the thread came, and elsewhere at its turn: it left meanwhile
  pub record WasGone (c : ℕ) (from to : Pass Element) : Type 0 where
    pub moved : Moved limits s Done.Away [] from to
    pub gone : 0 < times_left c moved.came.behind.since
    pub away : is_here (run (setting_of limits s.given) moved.left.found) c ≡ false

  -- what a try did, by whether it made the call: that act and no other; or nothing was asked, or the block was gone
  abbrev pub HasTried : Bool → ℕ → ℕ → ℕ → Pass Element → Pass Element → Type 0
  HasTried true c j k from to = Moved limits s (Done.Call c j k) [] from to
  HasTried false c j k from to = NotFound limits s c from to ⊎ WasGone c from to

  -- how many asks calls on these connections may take: one each, and one more for each time that their blocks may leave
  abbrev pub asks_for : List ℕ → ℕ
  asks_for [] = 0
  asks_for (c ∷ cs) = 1 + slice_index (limits s.given.first).leaves c + asks_for cs

  -- The pass of thread j, which has made calls on these connections: it stands idle, and has asked no more than they may take. It left
  -- only with these calls, one behind the other, or where the block of the next one was gone
  pub record CallerAt (j : ℕ) (cs : List ℕ) (x : Pass Element) : Type 0 where
    pub pass : IsPassOf number_of s.gate x
    pub is_number : number x ≡ s.given.rings + j
    pub idle : Idle (run (setting_of limits s.given) (seen x)) (s.given.rings + j)
    pub legal : Legal (setting_of limits s.given) (seen x)
    pub asks : asks_by (s.given.rings + j) (seen x) ≤ asks_for cs
    pub exact : EachOwn (OfThread (setting_of limits s.given) j) (s.given.rings + j) [] (seen x)
    pub next : next_call (s.given.rings + j) (seen x) ≤ length cs

  -- the same while it tries a call on connection c
  pub record TriesAt (j : ℕ) (cs : List ℕ) (c : ℕ) (x : Pass Element) : Type 0 where
    pub pass : IsPassOf number_of s.gate x
    pub is_number : number x ≡ s.given.rings + j
    pub idle : Idle (run (setting_of limits s.given) (seen x)) (s.given.rings + j)
    pub legal : Legal (setting_of limits s.given) (seen x)
    pub asks : asks_by (s.given.rings + j) (seen x) ≤ asks_for cs + times_left c (seen x)
    pub exact : EachOwn (OfThread (setting_of limits s.given) j) (s.given.rings + j) [] (seen x)
    pub next : next_call (s.given.rings + j) (seen x) ≤ length cs

  -- Thread j may make call k, which is on connection c, behind those on these connections: its quota suffices
  pub record MayMake (j k : ℕ) (cs : List ℕ) (c : ℕ) : Type 0 where
    pub no_worker : s.given.rings + j < length s.given.quotas
    pub range : c < length s.given.starts
    pub exists : Contains (limits s.given.first).calls (c, j, k)
    pub quota : asks_for cs + (1 + slice_index (limits s.given.first).leaves c) ≤ ask_quota (setting_of limits s.given) (s.given.rings + j)

module _ {R : Type 0} (limits : R → Limits) (j : ℕ) where
  -- its passes of all squeues know so, and together they made each of these calls once, and no other
  pub record CallersAt (cs : List ℕ) (ss : List (Named R)) (places : List (Option (Pass Element))) : Type 0 where
    pub each : AtEach (λ s o. Holds (CallerAt limits s j cs) o) ss places
    pub made : (c k : ℕ) → made_in c j k places ≡ once_on cs c k

  -- and may make the call at each
  abbrev pub MayMakeAll : ℕ → List ℕ → ℕ → List (Named R) → Type 0
  MayMakeAll k cs c ss = Each (λ s. MayMake limits s j k cs c) ss

  -- and each call on these connections, one after another
  abbrev pub MayMakeEach : List ℕ → List (Named R) → Type 0
  MayMakeEach conns ss = (k : ℕ) (c : ℕ) → slice_get conns k ≡ Some c → MayMakeAll k (take k conns) c ss
