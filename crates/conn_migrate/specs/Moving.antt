-- What a move needs of its ring, what it adds to a history, and what the ring knows afterwards.
use Rattle.std.specs.Prelude.{◌≡◌, ◌≢◌, ℕ, ◌+◌, ◌%◌, ◌<◌, Bool, true, false, List, length, slice_index}
use Rattle.turn_gate.specs.Passes.{number, seen}
use Rattle.turn_gate.specs.declared.pass.Pass.{Pass}
use Rattle.perimeter_core.specs.declared.entries.Act.{Act}
use Rattle.perimeter_core.specs.declared.marks.SynchAct.{SynchAct}
use Rattle.perimeter_core.specs.Perimeter.{Idle, is_here}
use Rattle.perimeter_core.specs.History.{Element, Limits, Setting, run}
use Rattle.perimeter_core.specs.Deeds.{due, times_left}
use Rattle.perimeter_core.specs.Legal.{feeds_by, asks_by}
use Rattle.squeue_state.specs.Naming.{Named, setting_of}
use Rattle.histories.specs.Elements.{left_by_pass}
use Rattle.squeue_state.specs.Clauses.{Added}
use Rattle.squeue_drain.specs.Draining.{GoesOn}
use Rattle.synch_enter.specs.Synch.{MayAsk, Came}

-- After what the pass has seen, which is that of c's ring, it may ask, and the block of c is here and may leave once more
pub record MayLeave {R : Type 0} (limits : R → Limits) (s : Named R) (c : ℕ) (p : Pass Element) : Type 0 where
  pub may_ask : MayAsk limits s p
  pub ring : number p ≡ c % s.given.rings
  pub here : is_here (run (setting_of limits s.given) (seen p)) c ≡ true
  pub leaves : times_left c (seen p) < slice_index (limits s.given.first).leaves c

-- After what the pass has seen, which is that of c's ring, it may ask, and the block of c is elsewhere
pub record MayCome {R : Type 0} (limits : R → Limits) (s : Named R) (c : ℕ) (p : Pass Element) : Type 0 where
  pub may_ask : MayAsk limits s p
  pub ring : number p ≡ c % s.given.rings
  pub range : c < length s.given.starts
  pub away : is_here (run (setting_of limits s.given) (seen p)) c ≡ false

-- The pass came to be owner, by the marks of its coming, and then left with this act and note, and with nothing of its hand.
-- That is its last mark, and it stands idle again
pub record Moved {R : Type 0} (limits : R → Limits) (s : Named R) (act : SynchAct) (note : List Act) (from to : Pass Element) : Type 0 where
  pub goes_on : GoesOn limits s from to
  pub idle : Idle (run (setting_of limits s.given) (seen to)) (number from)
  pub owner : Pass Element
  pub came : Came limits s from owner
  pub left : Added limits s owner (left_by_pass (number from) 0 act note) to

-- of connection d nothing has changed between two histories of a squeue
pub record IsKept (S : Setting) (d : ℕ) (before now : List Element) : Type 0 where
  pub here : is_here (run S now) d ≡ is_here (run S before) d
  pub next : due now d ≡ due before d
  pub left : times_left d now ≡ times_left d before

-- What the ring knows after a move of c: whether c is here, and that it has left so many times more; the pass entered one
-- Ask and no feed; and of the ring's other connections nothing has changed
pub record RingLearns {R : Type 0} (limits : R → Limits) (s : Named R) (c : ℕ) (here : Bool) (times : ℕ) (from to : Pass Element) : Type 0 where
  pub now_here : is_here (run (setting_of limits s.given) (seen to)) c ≡ here
  pub left : times_left c (seen to) ≡ times_left c (seen from) + times
  pub asks : asks_by (number from) (seen to) ≡ asks_by (number from) (seen from) + 1
  pub feeds : feeds_by (number from) (seen to) ≡ feeds_by (number from) (seen from)
  pub others : (d : ℕ) → d ≢ c → number from ≡ d % s.given.rings → IsKept (setting_of limits s.given) d (seen from) (seen to)
