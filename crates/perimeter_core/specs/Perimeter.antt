-- The perimeter machine: the state of one perimeter, what each mark needs there, and what it does.
-- A perimeter's passes and connections are known by their numbers. An owner holds the perimeter's blocks and processes
-- its hand outside of the machine; a mark tells how many entries of the hand it leaves unprocessed.
use Rattle.std.specs.Prelude.{◌≡◌, ◌≢◌, ℕ, ◌-◌, ◌≤◌, Bool, true, false, not, ◌&&◌, ◌||◌, List}
use Rattle.std.specs.Prelude.{[], ◌∷◌, ◌++◌, length, take, drop, nat_le, slice_index_or, slice_set, ◌==◌}
use Rattle.perimeter_core.specs.declared.entries.Entry.{Entry}
use Rattle.perimeter_core.specs.declared.entries.Entry.TheVariants.{Feed, Ask}
use Rattle.perimeter_core.specs.declared.marks.Own.{Own}
use Rattle.perimeter_core.specs.declared.marks.Own.TheVariants.{Free, Out, Granted}
use Rattle.perimeter_core.specs.declared.marks.SynchAct.{SynchAct}
use Rattle.perimeter_core.specs.declared.marks.SynchAct.TheVariants as Done
use Rattle.perimeter_core.specs.declared.marks.Mark.{Mark}
use Rattle.perimeter_core.specs.declared.marks.Mark.TheVariants as On

pub record State : Type 0 where
  pub own : Own
  -- what is queued, and what the owner took out of the queue
  pub chain : List Entry
  pub hand : List Entry
  -- the worker is to run; the ring is to bring chains
  pub wake : Bool
  pub polling : Bool
  -- for each connection, whether its block is here
  pub here : List Bool
  -- for each pass, whether it is closed
  pub closed : List Bool

abbrev pub is_empty : {A : Type 0} → List A → Bool
is_empty [] = true
is_empty (x ∷ xs) = false

abbrev pub is_free : Own → Bool
is_free Free = true
is_free (Out p) = false
is_free (Granted p) = false

abbrev pub is_out : Own → Bool
is_out Free = false
is_out (Out p) = true
is_out (Granted p) = false

abbrev pub is_here : State → ℕ → Bool
is_here s c = slice_index_or s.here c false

abbrev pub is_closed : State → ℕ → Bool
is_closed s p = slice_index_or s.closed p false

-- the entry is an Ask of p
abbrev pub is_ask : ℕ → Entry → Bool
is_ask p (Feed c n) = false
is_ask p (Ask q) = q == p

-- an Ask of p stands in the list
abbrev pub has_ask : ℕ → List Entry → Bool
has_ask p [] = false
has_ask p (Feed c n ∷ es) = has_ask p es
has_ask p (Ask q ∷ es) = (q == p) || has_ask p es

-- the list ends with an Ask of p
abbrev pub ends_with_ask : ℕ → List Entry → Bool
ends_with_ask p [] = false
ends_with_ask p (Feed c n ∷ es) = ends_with_ask p es
ends_with_ask p (Ask q ∷ []) = q == p
ends_with_ask p (Ask q ∷ e ∷ es) = ends_with_ask p (e ∷ es)

-- of a hand, all but the last rest entries, and the last rest entries
abbrev pub processed : ℕ → List Entry → List Entry
processed rest hand = take (length hand - rest) hand

abbrev pub unprocessed : ℕ → List Entry → List Entry
unprocessed rest hand = drop (length hand - rest) hand

-- a pass that may enter, ask or close: not closed, not owner, not granted, and no Ask of it is in hand or chain
pub record Idle (s : State) (p : ℕ) : Type 0 where
  pub open_pass : is_closed s p ≡ false
  pub no_owner : s.own ≢ Out p
  pub not_granted : s.own ≢ Granted p
  pub not_in_hand : has_ask p s.hand ≡ false
  pub not_in_chain : has_ask p s.chain ≡ false

-- what each mark needs; w is the worker's pass
abbrev pub Can : ℕ → State → Mark → Type 0
Can w s (On.Fill p es) = es ≢ []
Can w s (On.Fast p e) = (s.own ≡ Free) × (s.chain ≡ [])
Can w s (On.Claim p es) = (s.own ≡ Free) × (es ≢ [])
Can w s (On.Take p) = (s.own ≡ Out p) × (s.chain ≢ [])
Can w s (On.Leave p rest act) = (s.own ≡ Out p) × (rest ≤ length s.hand)
Can w s (On.Ask p) = s.own ≢ Free
Can w s (On.Grant p j rest) = (s.own ≡ Out p) × (rest ≤ length s.hand) × (ends_with_ask j (processed rest s.hand) ≡ true) × (j ≢ p)
Can w s (On.Accept j) = s.own ≡ Granted j
Can w s (On.Work p) = (s.own ≡ Free) × (s.wake ≡ true) × (p ≡ w)
Can w s (On.Close p) = Idle s p

-- which blocks are here after an act
abbrev pub here_after : SynchAct → List Bool → List Bool
here_after (Done.Out c) here = slice_set here c false
here_after (Done.In c) here = slice_set here c true
here_after _ here = here

-- what each mark does, but for polling
abbrev pub effect : State → Mark → State
effect s (On.Fill p es) = record s { chain = s.chain ++ es; wake = is_free s.own || s.wake }
effect s (On.Fast p e) = record s { own = Out p; hand = e ∷ [] }
effect s (On.Claim p es) = record s { own = Out p; chain = []; hand = s.chain ++ es; wake = false }
effect s (On.Take p) = record s { chain = []; hand = s.chain }
effect s (On.Leave p rest act) =
    record s {
      own = Free;
      chain = unprocessed rest s.hand ++ s.chain;
      hand = [];
      wake = not (is_empty (unprocessed rest s.hand ++ s.chain));
      here = here_after act s.here;
    }
effect s (On.Ask p) = record s { chain = s.chain ++ Ask p ∷ [] }
effect s (On.Grant p j rest) = record s { own = Granted j; chain = unprocessed rest s.hand ++ s.chain; hand = [] }
effect s (On.Accept j) = record s { own = Out j; hand = [] }
effect s (On.Work p) = record s { own = Out p; chain = []; hand = s.chain; wake = false }
effect s (On.Close p) = record s { closed = slice_set s.closed p true }

-- the ring is to bring chains from a backlog of 16 entries on, until the backlog is gone
abbrev pub polls : List Entry → Bool → Bool
polls chain polling = nat_le 16 (length chain) || (polling && not (is_empty chain))

-- what each mark does
abbrev pub after : State → Mark → State
after s m = record (effect s m) { polling = polls (effect s m).chain s.polling }
