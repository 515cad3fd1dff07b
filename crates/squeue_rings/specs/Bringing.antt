-- What bringing adds to what a ring's passes know.
use Rattle.std.specs.Prelude.{◌≡◌, ◌≢◌, ℕ, true, false, Option, Some, List, [], ◌++◌, length, slice_get, take, ◌%◌, ◌<◌, ◌≤◌}
use Rattle.turn_gate.specs.History.{Each}
use Rattle.turn_gate.specs.Passes.{seen}
use Rattle.turn_gate.specs.declared.pass.Pass.{Pass}
use Rattle.perimeter_core.specs.declared.entries.Feed.{Feed}
use Rattle.perimeter_core.specs.declared.marks.SynchAct.TheVariants as Done
use Rattle.perimeter_core.specs.History.{Element, Limits}
use Rattle.perimeter_core.specs.Deeds.{acts, due}
use Rattle.squeue_state.specs.Naming.{Named, setting_of}
use Rattle.histories.specs.declared.mode.Mode.{Mode}
use Rattle.squeue_enter.specs.declared.entering.Entered.{Entered}
use Rattle.squeue_state.specs.AllRoom.{HasAllRoom}
use Rattle.squeue_enter.specs.Entering.{Brought, HasEntered}
use Rattle.conn_migrate.specs.Moving.{Moved, RingLearns}
use Rattle.histories.specs.Stays.{IsLinked}
use Rattle.squeue_serve.specs.Places.{AtEach, Holds}
use Rattle.histories.specs.Runs.{InOrder, home_before, home_of}
use Rattle.histories.specs.Noted.{AreNoted}
use Rattle.squeue_rings.specs.Rings.{AreNumbered, MayBring, RingAt}
use Rattle.squeue_rings.specs.Seen.{seen_ends}

-- the pass has entered these feeds as one chain, and knows what a ring knows then
pub record HasBrought {R : Type 0} (limits : R → Limits) (s : Named R) (mode : Mode) (budget : ℕ) (es : List Feed) (from to : Pass Element) : Type 0 where
  pub answer : Entered
  pub entered : HasEntered limits s mode budget es from answer
  pub its_pass : to ≡ answer.pass
  pub brought : Brought limits s es from to

-- The connection of the feed was moved from its home before to that of the feed: out of the one squeue and into the other, with all
-- that was done to its block as the note; the ring's two passes know it, and its others are as they were
pub record HasMoved {R : Type 0} (limits : R → Limits) (squeues spread : ℕ)
    (f : Feed) (ss : List (Named R)) (old new : List (Option (Pass Element))) : Type 0 where
  pub a : Named R
  pub b : Named R
  pub pa : Pass Element
  pub qa : Pass Element
  pub pb : Pass Element
  pub qb : Pass Element
  pub from : slice_get ss (home_before squeues spread f) ≡ Some a
  pub to : slice_get ss (home_of squeues spread f) ≡ Some b
  pub was_from : slice_get old (home_before squeues spread f) ≡ Some (Some pa)
  pub was_to : slice_get old (home_of squeues spread f) ≡ Some (Some pb)
  pub now_from : slice_get new (home_before squeues spread f) ≡ Some (Some qa)
  pub now_to : slice_get new (home_of squeues spread f) ≡ Some (Some qb)
  pub others : (k : ℕ) → k ≢ home_before squeues spread f → k ≢ home_of squeues spread f → slice_get new k ≡ slice_get old k
  pub count : length new ≡ length old
  pub out : Moved limits a (Done.Out f.c) [] pa qa
  pub put : Moved limits b (Done.In f.c) (acts (setting_of limits a.given) (seen qa) f.c) pb qb
  pub left : RingLearns limits a f.c false 1 pa qa
  pub come : RingLearns limits b f.c true 0 pb qb
  pub next : due (seen qa) f.c ≡ due (seen pa) f.c
  pub due : due (seen qb) f.c ≡ due (seen qa) f.c

-- the squeues are numbered, have room for all that they are made for, and their residents have the same origin
pub record AreOneRun {R O : Type 0} (origin : R → O) (squeues : ℕ) (ss : List (Named R)) : Type 0 where
  pub count : length ss ≡ squeues
  pub numbered : AreNumbered ss
  pub room : Each (λ s. HasAllRoom s.given) ss
  pub same_origin : (i j : ℕ) (s t : Named R) → slice_get ss i ≡ Some s → slice_get ss j ≡ Some t → origin s.given.first ≡ origin t.given.first

-- each squeue has at most so many connections
abbrev pub AllBelow : {R : Type 0} → ℕ → List (Named R) → Type 0
AllBelow conns ss = Each (λ s. length s.given.starts ≤ conns) ss

module _ {R : Type 0} (limits : R → Limits) (squeues spread r : ℕ) (ss : List (Named R)) where
  -- each pass of the ring knows what has been brought, and its connections went from stay to stay, each with the feeds that were due
  pub record AreAt (entered reached : List Feed) (places : List (Option (Pass Element))) : Type 0 where
    pub each : AtEach (λ s o. Holds (RingAt limits squeues spread r entered reached s) o) ss places
    pub linked : (c : ℕ) → Each (λ s. (r ≡ c % s.given.rings) × (c < length s.given.starts)) ss → IsLinked (seen_ends limits ss places) c
    pub noted : (c : ℕ) → Each (λ s. (r ≡ c % s.given.rings) × (c < length s.given.starts)) ss → AreNoted spread (seen_ends limits ss places) c

module _ {R : Type 0} (limits : R → Limits) (squeues spread r : ℕ) (list : List Feed) (ss : List (Named R)) where
  -- each squeue's setting suffices for the list, whose feeds are in order
  pub record MayBringAll : Type 0 where
    pub order : InOrder list
    pub may : Each (MayBring limits squeues spread r list) ss

  -- The ring has brought a part of its list, and a piece of it comes next
  pub record IsReady (done piece behind : List Feed) (places : List (Option (Pass Element))) : Type 0 where
    pub is : list ≡ done ++ (piece ++ behind)
    pub all : MayBringAll
    pub at : AreAt limits squeues spread r ss done done places

  -- The ring has brought so many feeds of its list
  pub record IsFar (n : ℕ) (places : List (Option (Pass Element))) : Type 0 where
    pub within : n ≤ length list
    pub all : MayBringAll
    pub at : AreAt limits squeues spread r ss (take n list) (take n list) places
