-- What an entry into a squeue needs, and what it adds to the history.
use Rattle.std.specs.Prelude.{◌≡◌, ◌≢◌, ℕ, ◌+◌, ◌%◌, ◌≤◌, ◌<◌, true, List, [], ◌∷◌, ◌++◌, length, replicate}
use Rattle.turn_gate.specs.History.{Begins, only}
use Rattle.turn_gate.specs.Passes.{IsPassOf, freed_once, hit, turns_of, number, seen, mine, steps}
use Rattle.turn_gate.specs.declared.views.LockStep.{LockStep}
use Rattle.turn_gate.specs.declared.pass.Pass.{Pass}
use Rattle.perimeter_core.specs.declared.entries.Feed.{Feed}
use Rattle.perimeter_core.specs.declared.marks.SynchAct.TheVariants as Done
use Rattle.perimeter_core.specs.declared.marks.Mark.{Mark}
use Rattle.perimeter_core.specs.Perimeter.{Idle, is_free, is_empty, is_here}
use Rattle.perimeter_core.specs.History.{Element, Setting, Limits, feed_quota, run, made_by}
use Rattle.perimeter_core.specs.Deeds.{entries, feeds_of, times_left, due, done}
use Rattle.perimeter_core.specs.Legal.{Legal, Enters, feeds_by, asks_by, feed_count}
use Rattle.perimeter_core.specs.Backlog.{queue}
use Rattle.squeue_state.specs.Naming.{Named, Turned, setting_of}
use Rattle.squeue_state.specs.Clauses.{Found}
use Rattle.histories.specs.Elements.{number_of, filled_by, fast_by, claimed_by, taken_by, left_by_pass}
use Rattle.squeue_drain.specs.Draining.{plain, Ends, StaysBelow, is_leave, GoesOn}
use Rattle.histories.specs.declared.mode.Mode.{Mode}
use Rattle.squeue_enter.specs.declared.entering.How.{How}
use Rattle.squeue_enter.specs.declared.entering.How.TheVariants as How'
use Rattle.squeue_enter.specs.declared.entering.Way.{Way}
use Rattle.squeue_enter.specs.declared.entering.Way.TheVariants as Way'
use Rattle.squeue_enter.specs.declared.entering.Entered.{Entered}
use Rattle.squeue_enter.specs.Ways.{way_of, is_one}

-- After what the pass has seen it may enter these feeds, one after another: it isn't closed, owner, granted or waiting; the
-- block of each is here and the pass is its ring's; each is the next one of its connection and below the limit; and the
-- pass has so many feeds left
pub record MayEnter {R : Type 0} (limits : R → Limits) (s : Named R) (p : Pass Element) (es : List Feed) : Type 0 where
  pub pass : IsPassOf number_of s.gate p
  pub no_worker : number p < length s.given.quotas
  pub idle : Idle (run (setting_of limits s.given) (seen p)) (number p)
  pub enters : Enters (setting_of limits s.given) (run (setting_of limits s.given) (seen p)) (number p) (due (seen p)) (entries es)
  pub quota : feeds_by (number p) (seen p) + length es ≤ feed_quota (setting_of limits s.given) (number p)

-- the turn is this pass's, which may enter the feeds by what it had seen before
pub record IsTurnFor {R : Type 0} (limits : R → Limits) (s : Named R) (es : List Feed) (u : Turned R) (p : Pass Element) : Type 0 where
  pub found : Found limits s p u
  pub may : MayEnter limits s p es

-- The pass was refused: in one turn, which it ended without a mark, it found a history behind which n feeds more and an Ask
-- of each pass don't fit the room
pub record WasFull {R : Type 0} (limits : R → Limits) (s : Named R) (n : ℕ) (from to : Pass Element) : Type 0 where
  pub goes_on : GoesOn limits s from to
  pub same_mine : mine to ≡ mine from
  pub one_turn : turns_of (steps to) ≡ turns_of (steps from) + 1
  pub full : s.given.room < length (queue (run (setting_of limits s.given) (seen to))) + n + length s.given.quotas

-- From the history H on, in which it made M, the pass p drained: it took the queue some times, and then left or granted. It
-- processed at most `budget` feeds, and left with something queued only where it processed just as many. Once it has
-- processed so many it leaves
pub record DrainsFrom (S : Setting) (p budget : ℕ) (H M : List Element) (to : Pass Element) : Type 0 where
  pub between : List Element
  pub takes : ℕ
  pub last : Mark
  pub ends : Ends p last
  pub now_seen : seen to ≡ H ++ (between ++ plain last ∷ [])
  pub now_mine : mine to ≡ M ++ (replicate takes (taken_by p) ++ plain last ∷ [])
  pub most : feed_count (done S (seen to)) ≤ feed_count (done S H) + budget
  pub full : is_leave last ≡ true → (run S (seen to)).chain ≢ [] → feed_count (done S (seen to)) ≡ feed_count (done S H) + budget
  pub spent : StaysBelow S p (feed_count (done S H) + budget) H (between ++ plain last ∷ [])

-- From H on the pass left after it has processed its hand, while others made what stands between
pub record LeavesFrom (p : ℕ) (H M : List Element) (to : Pass Element) : Type 0 where
  pub between : List Element
  pub others : made_by p between ≡ []
  pub now_seen : seen to ≡ H ++ (between ++ left_by_pass p 0 Done.None [] ∷ [])
  pub now_mine : mine to ≡ M ++ left_by_pass p 0 Done.None [] ∷ []

-- What the entry of es added where its turn found H, in which the pass had made M, and what it answers
abbrev pub Went : Setting → Way → ℕ → ℕ → List Feed → List Element → List Element → Pass Element → How → Type 0
Went S Way'.Fill p budget es H M to how = (how ≡ How'.Queued (is_free (run S H).own))
    × (seen to ≡ H ++ filled_by p es ∷ []) × (mine to ≡ M ++ filled_by p es ∷ [])
Went S Way'.Fast p budget es H M to how = (f : Feed) × (es ≡ f ∷ []) × (how ≡ How'.Fast (length (run S (seen to)).chain))
    × DrainsFrom S p budget (H ++ fast_by p f ∷ []) (M ++ fast_by p f ∷ []) to
Went S Way'.Alone p budget es H M to how = (f : Feed) × (es ≡ f ∷ []) × (how ≡ How'.Fast (length (run S (seen to)).chain))
    × LeavesFrom p (H ++ fast_by p f ∷ []) (M ++ fast_by p f ∷ []) to
Went S Way'.Claim p budget es H M to how = (how ≡ How'.Drained (length (run S (seen to)).chain))
    × DrainsFrom S p budget (H ++ claimed_by p es ∷ []) (M ++ claimed_by p es ∷ []) to

-- The entry of es: its deciding turn found a legal history, and it went the way of the table for the state after it
pub record HasEntered {R : Type 0} (limits : R → Limits) (s : Named R)
    (mode : Mode) (budget : ℕ) (es : List Feed) (from : Pass Element) (r : Entered) : Type 0 where
  pub goes_on : GoesOn limits s from r.pass
  pub idle : Idle (run (setting_of limits s.given) (seen r.pass)) (number from)
  pub found : List Element
  pub begins : Begins (seen from) found
  pub legal : Legal (setting_of limits s.given) found
  pub own : only number_of (number from) found ≡ mine from
  pub went : Went (setting_of limits s.given)
      (way_of mode (is_free (run (setting_of limits s.given) found).own) (is_empty (run (setting_of limits s.given) found).chain) (is_one es))
      (number from) budget es found (mine from) r.pass r.how
  pub polling : r.polling ≡ (run (setting_of limits s.given) (seen r.pass)).polling

-- The pass filled: a turn found a legal history, and queued the feeds
pub record HasFilled {R : Type 0} (limits : R → Limits) (s : Named R) (from : Pass Element) (es : List Feed) (to : Pass Element) : Type 0 where
  pub goes_on : GoesOn limits s from to
  pub idle : Idle (run (setting_of limits s.given) (seen to)) (number from)
  pub found : List Element
  pub begins : Begins (seen from) found
  pub legal : Legal (setting_of limits s.given) found
  pub now_seen : seen to ≡ found ++ filled_by (number from) es ∷ []
  pub now_mine : mine to ≡ mine from ++ filled_by (number from) es ∷ []

-- The call made three steps on the lock word: two took the gate at once, and one freed it
abbrev pub HasTurned : List LockStep → List LockStep → Type 0
HasTurned before after = (held : List LockStep) × hit before held × freed_once held after

-- What a ring knows after it has entered these feeds: so many more are entered and no Ask is; the next feed of each of its
-- connections is so many further, and its block has neither come nor gone
pub record Brought {R : Type 0} (limits : R → Limits) (s : Named R) (es : List Feed) (from to : Pass Element) : Type 0 where
  pub feeds : feeds_by (number from) (seen to) ≡ feeds_by (number from) (seen from) + length es
  pub asks : asks_by (number from) (seen to) ≡ asks_by (number from) (seen from)
  pub next : (c : ℕ) → number from ≡ c % s.given.rings → due (seen to) c ≡ due (seen from) c + length (feeds_of c (entries es))
  pub here : (c : ℕ) → number from ≡ c % s.given.rings
      → is_here (run (setting_of limits s.given) (seen to)) c ≡ is_here (run (setting_of limits s.given) (seen from)) c
  pub left : (c : ℕ) → number from ≡ c % s.given.rings → times_left c (seen to) ≡ times_left c (seen from)

-- What the pass might have entered behind these feeds it may enter now
abbrev pub MayGoOn : {R : Type 0} → (R → Limits) → Named R → List Feed → Pass Element → Pass Element → Type 0
MayGoOn limits s es from to = (more : List Feed) → MayEnter limits s from (es ++ more) → MayEnter limits s to more
