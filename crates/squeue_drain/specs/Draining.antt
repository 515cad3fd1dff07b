-- What a drain does.
use Rattle.std.specs.Prelude.{◌≡◌, ◌≢◌, ℕ, ◌+◌, ◌<◌, ◌≤◌, Bool, true, false, List, [], ◌∷◌, ◌++◌, length, replicate}
use Rattle.turn_gate.specs.History.{Begins}
use Rattle.turn_gate.specs.Passes.{IsPassOf, number, seen, mine}
use Rattle.turn_gate.specs.declared.pass.Pass.{Pass}
use Rattle.perimeter_core.specs.declared.resident.Resident.{Ghosts}
use Rattle.perimeter_core.specs.declared.marks.SynchAct.TheVariants as Done
use Rattle.perimeter_core.specs.declared.marks.Mark.{Mark}
use Rattle.perimeter_core.specs.declared.marks.Mark.TheVariants as On
use Rattle.perimeter_core.specs.Perimeter.{State, Idle, is_closed}
use Rattle.perimeter_core.specs.History.{Element, Setting, Limits, pass_of, run, made_by}
use Rattle.perimeter_core.specs.Deeds.{done}
use Rattle.perimeter_core.specs.Legal.{Legal, feed_count}
use Rattle.squeue_state.specs.Naming.{Named, setting_of}
use Rattle.histories.specs.Elements.{number_of, taken_by, left_by_pass}
use Rattle.squeue_drain.specs.declared.owner.Owner.{Owner}
use Rattle.squeue_drain.specs.Owning.{Feeds, HasFeeds, state_of, fed_so_far}

-- an element without a note
abbrev pub plain : Mark → Element
plain m = record { mark = m; note = [] }

-- the last mark of an owner that drains: it leaves without an act, or grants to another pass, whose Ask it met
abbrev pub Ends : ℕ → Mark → Type 0
Ends p (On.Leave q rest Done.None) = q ≡ p
Ends p (On.Grant q j rest) = (q ≡ p) × (j ≢ p)
Ends p _ = ⊥

abbrev pub is_leave : Mark → Bool
is_leave (On.Leave p rest act) = true
is_leave _ = false

-- where the mark leaves, it leaves nothing of the hand, and found nothing queued
abbrev pub LeavesNothing : State → Mark → Type 0
LeavesNothing s (On.Leave p rest act) = (rest ≡ 0) × (s.chain ≡ [])
LeavesNothing s _ = Unit {0}

-- the pass has seen more, a legal history, at the same squeue
pub record GoesOn {R : Type 0} (limits : R → Limits) (s : Named R) (from to : Pass Element) : Type 0 where
  pub is_pass : IsPassOf number_of s.gate to
  pub same_number : number to ≡ number from
  pub grows : Begins (seen from) (seen to)
  pub legal : Legal (setting_of limits s.given) (seen to)

-- how many entries are queued and whether the ring is to bring chains, after all that the pass has seen
pub record Tells {R : Type 0} (limits : R → Limits) (s : Named R) (p : Pass Element) (rest : ℕ) (polling : Bool) : Type 0 where
  pub rest_is : rest ≡ length (run (setting_of limits s.given) (seen p)).chain
  pub polling_is : polling ≡ (run (setting_of limits s.given) (seen p)).polling

-- p took the queue some times, and made no other mark
abbrev pub TookOnly : ℕ → Pass Element → Pass Element → Type 0
TookOnly p from to = (takes : ℕ) × (mine to ≡ mine from ++ replicate takes (taken_by p))

-- Wherever a mark of p among these elements doesn't leave, fewer than so many feeds were processed until then; the elements
-- stand behind the past
abbrev pub StaysBelow : Setting → ℕ → ℕ → List Element → List Element → Type 0
StaysBelow S p most past [] = Unit {0}
StaysBelow S p most past (e ∷ K) = (pass_of e.mark ≡ p → is_leave e.mark ≡ false → feed_count (done S (past ++ e ∷ [])) < most)
    × StaysBelow S p most (past ++ e ∷ []) K

-- An owner drained: it took the queue some times, and then left or granted. It processed at most `budget` feeds, and left
-- with something queued only where it processed just as many. Once it has processed so many it leaves: it takes the queue, or
-- grants to an Ask that is next, only before
pub record Drained {R : Type 0} (limits : R → Limits) (s : Named R) (budget : ℕ) (o : Owner R) (to : Pass Element) : Type 0 where
  pub goes_on : GoesOn limits s o.pass to
  pub takes : ℕ
  pub between : List Element
  pub last : Mark
  pub ends : Ends (number o.pass) last
  pub now_seen : seen to ≡ seen o.pass ++ (between ++ plain last ∷ [])
  pub now_mine : mine to ≡ mine o.pass ++ (replicate takes (taken_by (number o.pass)) ++ plain last ∷ [])
  pub most : feed_count (done (setting_of limits s.given) (seen to)) ≤ fed_so_far limits s o + budget
  pub full : is_leave last ≡ true → (run (setting_of limits s.given) (seen to)).chain ≢ []
      → feed_count (done (setting_of limits s.given) (seen to)) ≡ fed_so_far limits s o + budget
  pub spent : StaysBelow (setting_of limits s.given) (number o.pass) (fed_so_far limits s o + budget) (seen o.pass) (between ++ plain last ∷ [])
  -- a pass that isn't closed may enter again
  pub idle : is_closed (state_of limits s o) (number o.pass) ≡ false → Idle (run (setting_of limits s.given) (seen to)) (number o.pass)

-- In one turn, which found what others made meanwhile, an owner left or granted
pub record Off {R : Type 0} (limits : R → Limits) (s : Named R) (spent : Bool) (o : Owner R) (to : Pass Element) : Type 0 where
  pub goes_on : GoesOn limits s o.pass to
  pub since : List Element
  pub others : made_by (number o.pass) since ≡ []
  pub last : Mark
  pub ends : Ends (number o.pass) last
  pub now_seen : seen to ≡ (seen o.pass ++ since) ++ plain last ∷ []
  pub now_mine : mine to ≡ mine o.pass ++ plain last ∷ []
  pub count : feed_count (done (setting_of limits s.given) (seen to)) ≡ fed_so_far limits s o
  pub leaves : spent ≡ true → last ≡ On.Leave (number o.pass) (length o.hand.left) Done.None
  pub nothing : spent ≡ false → LeavesNothing (run (setting_of limits s.given) (seen o.pass ++ since)) last
  pub empty : spent ≡ false → is_leave last ≡ true → (run (setting_of limits s.given) (seen to)).chain ≡ []
  pub idle : is_closed (state_of limits s o) (number o.pass) ≡ false → Idle (run (setting_of limits s.given) (seen to)) (number o.pass)

-- In one turn, which found what others made meanwhile, an owner took the queue
pub record Onward {R P O : Type 0} (G : Ghosts R P O) (s : Named R) (o next : Owner R) : Type 0 where
  pub feeds : Feeds G s next
  pub has : HasFeeds G.limits s next
  pub goes_on : GoesOn G.limits s o.pass next.pass
  pub since : List Element
  pub others : made_by (number o.pass) since ≡ []
  pub now_seen : seen next.pass ≡ (seen o.pass ++ since) ++ taken_by (number o.pass) ∷ []
  pub now_mine : mine next.pass ≡ mine o.pass ++ taken_by (number o.pass) ∷ []
  pub count : fed_so_far G.limits s next ≡ fed_so_far G.limits s o
  pub closed : is_closed (state_of G.limits s next) (number o.pass) ≡ is_closed (state_of G.limits s o) (number o.pass)

-- An owner of one feed processed it and left in the next turn, which found what others made meanwhile
pub record ServedOne {R : Type 0} (limits : R → Limits) (s : Named R) (o : Owner R) (to : Pass Element) : Type 0 where
  pub goes_on : GoesOn limits s o.pass to
  pub since : List Element
  pub others : made_by (number o.pass) since ≡ []
  pub now_seen : seen to ≡ (seen o.pass ++ since) ++ left_by_pass (number o.pass) 0 Done.None [] ∷ []
  pub now_mine : mine to ≡ mine o.pass ++ left_by_pass (number o.pass) 0 Done.None [] ∷ []
  pub idle : is_closed (state_of limits s o) (number o.pass) ≡ false → Idle (run (setting_of limits s.given) (seen to)) (number o.pass)
