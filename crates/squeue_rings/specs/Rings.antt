-- What a ring needs, and what its passes know of its connections.
use Rattle.std.specs.Prelude.{◌≡◌, ℕ, ◌+◌, ◌%◌, ◌<◌, ◌≤◌, ◌==◌, List, Some, length, slice_get, slice_index}
use Rattle.turn_gate.specs.History.{Each}
use Rattle.turn_gate.specs.Passes.{IsPassOf, number, seen}
use Rattle.turn_gate.specs.declared.pass.Pass.{Pass}
use Rattle.perimeter_core.specs.declared.entries.Feed.{Feed}
use Rattle.perimeter_core.specs.Perimeter.{Idle, is_here}
use Rattle.perimeter_core.specs.History.{Element, Limits, ask_quota, feed_quota, run}
use Rattle.perimeter_core.specs.Deeds.{due, times_left}
use Rattle.perimeter_core.specs.Legal.{asks_by, feeds_by}
use Rattle.squeue_state.specs.Naming.{Named, setting_of}
use Rattle.histories.specs.Elements.{number_of}
use Rattle.histories.specs.Runs.{brought, comes, count, is_at, is_left_by, leaves, place}

-- the squeues are numbered from 0 on
abbrev pub AreNumbered : {R : Type 0} → List (Named R) → Type 0
AreNumbered {R} squeues = (q : ℕ) (s : Named R) → slice_get squeues q ≡ Some s → s.given.number ≡ q

module _ {R : Type 0} (limits : R → Limits) (squeues spread r : ℕ) where
  -- Ring r may bring this list as far as the squeue is concerned: its quotas suffice for the feeds that are at home there and for
  -- the moves out of it and into it, each connection may leave so often, and the feeds are the ring's and within the limits
  pub record MayBring (list : List Feed) (s : Named R) : Type 0 where
    pub no_worker : r < length s.given.quotas
    pub feeds : count (is_at squeues spread s.given.number) list ≤ feed_quota (setting_of limits s.given) r
    pub asks : count (leaves squeues spread s.given.number) list + count (comes squeues spread s.given.number) list ≤ ask_quota (setting_of limits s.given) r
    pub leaving : (c : ℕ) → count (is_left_by squeues spread c s.given.number) list ≤ slice_index (limits s.given.first).leaves c
    pub within : (c : ℕ) → brought c list ≤ slice_index (limits s.given.first).feeds c
    pub own : Each (λ (f : Feed). (r ≡ f.c % s.given.rings) × (f.c < length s.given.starts)) list

  -- What the ring's pass of the squeue knows when the ring has entered these feeds, and moved for those reached: it stands idle;
  -- it has entered the feeds at home there, and an Ask for each move; and each of the ring's connections is here exactly where its
  -- last feed reached is at home, is then due the next feed, and has left as often as it moved away
  pub record RingAt (entered reached : List Feed) (s : Named R) (x : Pass Element) : Type 0 where
    pub pass : IsPassOf number_of s.gate x
    pub is_number : number x ≡ r
    pub idle : Idle (run (setting_of limits s.given) (seen x)) r
    pub feeds : feeds_by r (seen x) ≡ count (is_at squeues spread s.given.number) entered
    pub asks : asks_by r (seen x) ≡ count (leaves squeues spread s.given.number) reached + count (comes squeues spread s.given.number) reached
    pub here : (c : ℕ) → r ≡ c % s.given.rings → c < length s.given.starts
        → is_here (run (setting_of limits s.given) (seen x)) c ≡ (place squeues spread c reached == s.given.number)
    pub next : (c : ℕ) → r ≡ c % s.given.rings → c < length s.given.starts → place squeues spread c reached ≡ s.given.number
        → due (seen x) c ≡ brought c entered
    pub left : (c : ℕ) → r ≡ c % s.given.rings → times_left c (seen x) ≡ count (is_left_by squeues spread c s.given.number) reached
