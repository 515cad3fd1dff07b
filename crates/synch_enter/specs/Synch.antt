-- What is known of a synchronous owner.
use Rattle.std.specs.Prelude.{◌≡◌, ◌≢◌, ℕ, ◌%◌, ◌+◌, ◌<◌, ◌⊎◌, Bool, true, false, List, [], ◌∷◌, ◌++◌, length, slice_index, Contains}
use Rattle.turn_gate.specs.History.{Begins}
use Rattle.turn_gate.specs.Passes.{IsPassOf, number, seen, mine}
use Rattle.turn_gate.specs.declared.pass.Pass.{Pass}
use Rattle.perimeter_core.specs.declared.resident.Resident.{Ghosts}
use Rattle.perimeter_core.specs.declared.entries.Act.{Act}
use Rattle.perimeter_core.specs.declared.marks.SynchAct.{SynchAct}
use Rattle.perimeter_core.specs.declared.marks.SynchAct.TheVariants as Done
use Rattle.perimeter_core.specs.declared.marks.Mark.TheVariants as On
use Rattle.perimeter_core.specs.Perimeter.{State, Idle, ends_with_ask, is_closed, is_free, is_here}
use Rattle.perimeter_core.specs.History.{Element, Limits, Setting, ask_quota, run, made_by}
use Rattle.perimeter_core.specs.Deeds.{acts, feed_acts, times_left}
use Rattle.perimeter_core.specs.Legal.{Legal, ActFits, ActInRange, NoteFits, asks_by, only_last_ask}
use Rattle.squeue_state.specs.Naming.{Named, Turned, setting_of}
use Rattle.histories.specs.Elements.{number_of, asked_by, ask_claimed_by, granted_by, accepted_by}
use Rattle.squeue_drain.specs.declared.owner.Owner.{Owner}
use Rattle.squeue_drain.specs.Draining.{GoesOn}
use Rattle.squeue_drain.specs.Owning.{Owns, state_of, processed_by}
use Rattle.synch_enter.specs.declared.acts.Called.{Called}
use Rattle.synch_enter.specs.declared.acts.Called.TheVariants as Called'

-- After what the pass has seen it may ask: it isn't closed, owner, granted or waiting, and has an ask left
pub record MayAsk {R : Type 0} (limits : R → Limits) (s : Named R) (p : Pass Element) : Type 0 where
  pub pass : IsPassOf number_of s.gate p
  pub no_worker : number p < length s.given.quotas
  pub idle : Idle (run (setting_of limits s.given) (seen p)) (number p)
  pub quota : asks_by (number p) (seen p) < ask_quota (setting_of limits s.given) (number p)

-- The same after what a turn of the pass has found
pub record MayAskAt {R : Type 0} (limits : R → Limits) (s : Named R) (u : Turned R) : Type 0 where
  pub squeue : u.squeue ≡ s
  pub legal : Legal (setting_of limits s.given) u.found
  pub no_worker : u.number < length s.given.quotas
  pub idle : Idle (run (setting_of limits s.given) u.found) u.number
  pub quota : asks_by u.number u.found < ask_quota (setting_of limits s.given) u.number

-- The owner stands at its own Ask: nothing is left of its hand, which is empty, for it came by Accept, or ends with that Ask,
-- the only one in it. It did at most one act, which its Leave may report with this note
pub record StandsAtItsAsk {R P O : Type 0} (G : Ghosts R P O) (s : Named R) (note : List Act) (o : Owner R) : Type 0 where
  pub owns : Owns G s note o
  pub no_worker : number o.pass < length s.given.quotas
  pub open_pass : is_closed (state_of G.limits s o) (number o.pass) ≡ false
  pub left : o.hand.left ≡ []
  pub at_ask : ((state_of G.limits s o).hand ≡ []) ⊎ (ends_with_ask (number o.pass) (state_of G.limits s o).hand ≡ true)
  pub only : only_last_ask (number o.pass) (state_of G.limits s o).hand ≡ true
  pub range : ActInRange (setting_of G.limits s.given) o.act
  pub fits : ActFits (setting_of G.limits s.given) (seen o.pass) (state_of G.limits s o) (number o.pass) (state_of G.limits s o).chain o.act
  pub note_fits : NoteFits (On.Leave (number o.pass) 0 o.act) note

-- it granted to another pass, whose Ask stood before its own, and accepted
abbrev pub HandsOn : ℕ → List Element → Type 0
HandsOn p marks = (j : ℕ) × (rest : ℕ) × (j ≢ p) × (marks ≡ granted_by p j rest ∷ accepted_by p ∷ [])

-- What the pass p makes to come, by whether it found the perimeter free: it claims with its Ask last, and either stands there
-- or hands the perimeter on and accepts later; or it asks, and accepts
abbrev pub IsWay : Bool → ℕ → Element → List Element → Type 0
IsWay true p ask marks = (ask ≡ ask_claimed_by p) × ((marks ≡ []) ⊎ HandsOn p marks)
IsWay false p ask marks = (ask ≡ asked_by p) × (marks ≡ accepted_by p ∷ [])

-- Where its turn found H, in which it had made M, the pass p has come with its Ask and what stands since
pub record CameBehind (S : Setting) (p : ℕ) (H M : List Element) (to : Pass Element) : Type 0 where
  pub ask : Element
  pub since : List Element
  pub marks : List Element
  pub now_seen : seen to ≡ (H ++ ask ∷ []) ++ since
  pub now_mine : mine to ≡ M ++ (ask ∷ marks)
  pub way : IsWay (is_free (run S H).own) p ask marks

-- The pass came: its first turn found what others made meanwhile
pub record Came {R : Type 0} (limits : R → Limits) (s : Named R) (from to : Pass Element) : Type 0 where
  pub goes_on : GoesOn limits s from to
  pub found : List Element
  pub begins : Begins (seen from) found
  pub others : made_by (number from) begins.0 ≡ []
  pub behind : CameBehind (setting_of limits s.given) (number from) found (mine from) to

-- and there its first turn found c
abbrev pub CameFor : {R : Type 0} → (R → Limits) → Named R → ℕ → Pass Element → Pass Element → Type 0
CameFor limits s c from to = (came : Came limits s from to) × (is_here (run (setting_of limits s.given) came.found) c ≡ true)

-- The pass's one turn left no mark, since it didn't find c
pub record NotFound {R : Type 0} (limits : R → Limits) (s : Named R) (c : ℕ) (from to : Pass Element) : Type 0 where
  pub goes_on : GoesOn limits s from to
  pub same_mine : mine to ≡ mine from
  pub away : is_here (run (setting_of limits s.given) (seen to)) c ≡ false
  pub may_ask : MayAsk limits s to

-- the acts that were done to the block of c when the owner has processed so much
abbrev pub acts_at : {R : Type 0} → (R → Limits) → Named R → ℕ → Owner R → List Act
acts_at limits s c o = acts (setting_of limits s.given) (seen o.pass) c ++ feed_acts c (processed_by limits s o)

module _ {R P O : Type 0} (G : Ghosts R P O) (s : Named R) where
  -- The owner did no act, and thread j is its pass's and has such a call
  pub record MayCall (c j k : ℕ) (o : Owner R) : Type 0 where
    pub stands_at : StandsAtItsAsk G s [] o
    pub no_act : o.act ≡ Done.None
    pub thread : number o.pass ≡ s.given.rings + j
    pub exists : Contains (G.limits s.given.first).calls (c, j, k)

  -- The owner did no act, its pass is that of the ring of c, and c is here and may leave once more
  pub record MayTake (c : ℕ) (o : Owner R) : Type 0 where
    pub stands_at : StandsAtItsAsk G s [] o
    pub no_act : o.act ≡ Done.None
    pub ring : number o.pass ≡ c % s.given.rings
    pub here : is_here (state_of G.limits s o) c ≡ true
    pub leaves : times_left c (seen o.pass) < slice_index (G.limits s.given.first).leaves c

  -- The owner did no act, its pass is that of the ring of c, c isn't here, and the part is a block of c's
  pub record MayPut (c : ℕ) (part : P) (o : Owner R) : Type 0 where
    pub stands_at : StandsAtItsAsk G s [] o
    pub no_act : o.act ≡ Done.None
    pub ring : number o.pass ≡ c % s.given.rings
    pub range : c < length s.given.starts
    pub away : is_here (state_of G.limits s o) c ≡ false
    pub part_of : G.is_part_of (G.origin s.given.first) c part

-- what a call answers, by whether c is here, and which act it then is
abbrev pub Answers : State → ℕ → ℕ → ℕ → SynchAct → Called → Type 0
Answers t c j k act Called'.Done = (is_here t c ≡ true) × (act ≡ Done.Call c j k)
Answers t c j k act Called'.Elsewhere = (is_here t c ≡ false) × (act ≡ Done.Away)

module _ {R P O : Type 0} (G : Ghosts R P O) (s : Named R) where
  -- The call was made where c is here, and nowhere else. Where the pass came when c was here, c is elsewhere only for an Out of
  -- it between the pass's Ask and its turn as owner
  pub record HasCalled (c j k : ℕ) (o next : Owner R) (called : Called) : Type 0 where
    pub stands_at : StandsAtItsAsk G s [] next
    pub answers : Answers (state_of G.limits s o) c j k next.act called
    pub gone : (from : Pass Element) → (came : CameFor G.limits s c from o.pass) → called ≡ Called'.Elsewhere → 0 < times_left c came.0.behind.since

  -- The block was taken out, with all acts that were done to it
  pub record HasTaken (c : ℕ) (o next : Owner R) (part : P) : Type 0 where
    pub stands_at : StandsAtItsAsk G s [] next
    pub act : next.act ≡ Done.Out c
    pub part_of : G.is_part_of (G.origin s.given.first) c part
    pub part_had : G.part_stands part (acts_at G.limits s c o)

  -- The block was put in, which stands for the note
  pub record HasPut (c : ℕ) (note : List Act) (next : Owner R) : Type 0 where
    pub stands_at : StandsAtItsAsk G s note next
    pub act : next.act ≡ Done.In c
