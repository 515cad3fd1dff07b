-- Which histories are legal: what each element has to meet after those before it.
use Rattle.std.specs.Prelude.{◌≡◌, ◌≢◌, ℕ, ◌+◌, ◌%◌, ◌<◌, ◌≤◌, ◌⊎◌, Bool, true, false}
use Rattle.std.specs.Prelude.{if◌then◌else◌, ◌==◌, ◌&&◌, List, [], ◌∷◌, ◌++◌, length, slice_index, Contains}
use Rattle.perimeter_core.specs.declared.entries.Act.{Act}
use Rattle.perimeter_core.specs.declared.entries.Entry.{Entry}
use Rattle.perimeter_core.specs.declared.entries.Entry.TheVariants.{Feed, Ask}
use Rattle.perimeter_core.specs.declared.marks.SynchAct.{SynchAct}
use Rattle.perimeter_core.specs.declared.marks.SynchAct.TheVariants as Done
use Rattle.perimeter_core.specs.declared.marks.Mark.{Mark}
use Rattle.perimeter_core.specs.declared.marks.Mark.TheVariants as On
use Rattle.perimeter_core.specs.Perimeter.{State, Can, Idle, is_empty, is_here, ends_with_ask, processed, unprocessed}
use Rattle.perimeter_core.specs.History.{Element, Setting, worker, passes, conns, feed_quota, ask_quota, run, pass_of}
use Rattle.perimeter_core.specs.Deeds.{entries_of, feeds_of, times_left, due}

-- Every pass and every connection in a mark is one that there is
abbrev pub EntriesInRange : Setting → List Entry → Type 0
EntriesInRange S [] = Unit {0}
EntriesInRange S (Feed c n ∷ es) = (c < conns S) × EntriesInRange S es
EntriesInRange S (Ask p ∷ es) = (p < passes S) × EntriesInRange S es

abbrev pub ActInRange : Setting → SynchAct → Type 0
ActInRange S (Done.Call c j k) = c < conns S
ActInRange S (Done.Out c) = c < conns S
ActInRange S (Done.In c) = c < conns S
ActInRange S _ = Unit {0}

abbrev pub InRange : Setting → Mark → Type 0
InRange S (On.Leave p rest act) = (p < passes S) × ActInRange S act
InRange S (On.Grant p j rest) = (p < passes S) × (j < passes S)
InRange S m = (pass_of m < passes S) × EntriesInRange S (entries_of m)

-- The worker makes only Work, Take, Grant, and Leave with no act, and it alone makes Work
abbrev pub WorkerOnly : ℕ → Mark → Type 0
WorkerOnly w (On.Work p) = p ≡ w
WorkerOnly w (On.Take p) = Unit {0}
WorkerOnly w (On.Grant p j rest) = Unit {0}
WorkerOnly w (On.Leave p rest act) = p ≡ w → act ≡ Done.None
WorkerOnly w m = pass_of m ≢ w

-- Who enters, asks or closes isn't closed, owner, granted or waiting
abbrev pub IdleFirst : State → Mark → Type 0
IdleFirst s (On.Fill p es) = Idle s p
IdleFirst s (On.Fast p e) = Idle s p
IdleFirst s (On.Claim p es) = Idle s p
IdleFirst s (On.Ask p) = Idle s p
IdleFirst s (On.Close p) = Idle s p
IdleFirst s _ = Unit {0}

abbrev pub all_feeds : List Entry → Bool
all_feeds [] = true
all_feeds (Feed c n ∷ es) = all_feeds es
all_feeds (Ask p ∷ es) = false

-- Feeds are entered, or by a Claim its own Ask alone
abbrev pub RightKind : Mark → Type 0
RightKind (On.Fill p es) = all_feeds es ≡ true
RightKind (On.Fast p e) = all_feeds (e ∷ []) ≡ true
RightKind (On.Claim p es) = (all_feeds es ≡ true) ⊎ (es ≡ Ask p ∷ [])
RightKind _ = Unit {0}

-- the next numbers, after one more feed of c
abbrev pub one_more : ℕ → (ℕ → ℕ) → ℕ → ℕ
one_more c next d = if c == d then next d + 1 else next d

-- A feed is entered by its connection's ring, where the block is here, as the next one and below the limit. The feeds of one
-- mark are checked one after another
abbrev pub Enters : Setting → State → ℕ → (ℕ → ℕ) → List Entry → Type 0
Enters S s p next [] = Unit {0}
Enters S s p next (Feed c n ∷ es) =
    (p ≡ c % S.rings) × (is_here s c ≡ true) × (n ≡ next c) × (n < slice_index S.limits.feeds c) × Enters S s p (one_more c next) es
Enters S s p next (Ask q ∷ es) = Enters S s p next es

-- How many feeds and asks a list holds, and how many a pass has entered
abbrev pub feed_count : List Entry → ℕ
feed_count [] = 0
feed_count (Feed c n ∷ es) = 1 + feed_count es
feed_count (Ask p ∷ es) = feed_count es

abbrev pub ask_count : List Entry → ℕ
ask_count [] = 0
ask_count (Feed c n ∷ es) = ask_count es
ask_count (Ask p ∷ es) = 1 + ask_count es

abbrev pub feeds_by : ℕ → List Element → ℕ
feeds_by p [] = 0
feeds_by p (e ∷ H) = (if pass_of e.mark == p then feed_count (entries_of e.mark) else 0) + feeds_by p H

abbrev pub asks_by : ℕ → List Element → ℕ
asks_by p [] = 0
asks_by p (e ∷ H) = (if pass_of e.mark == p then ask_count (entries_of e.mark) else 0) + asks_by p H

-- No pass enters more feeds or asks than its quota
pub record WithinQuota (S : Setting) (p : ℕ) (H : List Element) : Type 0 where
  pub feeds : feeds_by p H ≤ feed_quota S p
  pub asks : asks_by p H ≤ ask_quota S p

-- no Ask stands in the list but one of p, as its last entry
abbrev pub only_last_ask : ℕ → List Entry → Bool
only_last_ask p [] = true
only_last_ask p (Feed c n ∷ es) = only_last_ask p es
only_last_ask p (Ask q ∷ es) = (q == p) && is_empty es

-- An Ask is processed only last before a Grant to it, or as the owner's own last before its Leave. An owner that came by
-- Accept makes Leave as its next mark: it is the one whose hand is empty (law an_empty_hand_is_by_accept)
abbrev pub AsksLast : State → Mark → Type 0
AsksLast s (On.Take p) = (all_feeds s.hand ≡ true) × (s.hand ≢ [])
AsksLast s (On.Leave p rest act) = only_last_ask p (processed rest s.hand) ≡ true
AsksLast s (On.Grant p j rest) = only_last_ask j (processed rest s.hand) ≡ true
AsksLast s _ = Unit {0}

-- Only who came by Accept, or stands at its own Ask, does an act
abbrev pub AtItsAsk : State → Mark → Type 0
AtItsAsk s (On.Leave p rest act) = act ≢ Done.None → (s.hand ≡ []) ⊎ (ends_with_ask p (processed rest s.hand) ≡ true)
AtItsAsk s _ = Unit {0}

-- What each act needs; queue is what then stands in the chain
abbrev pub ActFits : Setting → List Element → State → ℕ → List Entry → SynchAct → Type 0
ActFits S H s p queue Done.None = Unit {0}
ActFits S H s p queue (Done.Call c j k) = (p ≡ S.rings + j) × (is_here s c ≡ true) × Contains S.limits.calls (c, j, k)
ActFits S H s p queue Done.Away = (S.rings ≤ p) × (p ≢ worker S)
ActFits S H s p queue (Done.Out c) =
    (p ≡ c % S.rings) × (is_here s c ≡ true) × (times_left c H < slice_index S.limits.leaves c) × (feeds_of c queue ≡ [])
ActFits S H s p queue (Done.In c) = (p ≡ c % S.rings) × (is_here s c ≡ false)

abbrev pub ActsFit : Setting → List Element → State → Mark → Type 0
ActsFit S H s (On.Leave p rest act) = ActFits S H s p (unprocessed rest s.hand ++ s.chain) act
ActsFit S H s _ = Unit {0}

-- From a hand that isn't empty at least one entry is processed before it is left. A Grant always processes the Ask that it
-- grants, and a Take the whole hand
abbrev pub Progress : State → Mark → Type 0
Progress s (On.Leave p rest act) = s.hand ≢ [] → rest < length s.hand
Progress s _ = Unit {0}

-- Only an In has a note
abbrev pub NoteFits : Mark → List Act → Type 0
NoteFits (On.Leave p rest (Done.In c)) note = Unit {0}
NoteFits _ note = note ≡ []

-- The element may follow the history
pub record May (S : Setting) (H : List Element) (e : Element) : Type 0 where
  pub step : Can (worker S) (run S H) e.mark
  pub range : InRange S e.mark
  pub worker_only : WorkerOnly (worker S) e.mark
  pub idle : IdleFirst (run S H) e.mark
  pub kind : RightKind e.mark
  pub enters : Enters S (run S H) (pass_of e.mark) (due H) (entries_of e.mark)
  pub quota : WithinQuota S (pass_of e.mark) (H ++ e ∷ [])
  pub asks_last : AsksLast (run S H) e.mark
  pub at_its_ask : AtItsAsk (run S H) e.mark
  pub act : ActsFit S H (run S H) e.mark
  pub progress : Progress (run S H) e.mark
  pub note : NoteFits e.mark e.note

-- Each element of the rest may follow what stands before it
abbrev pub LegalFrom : Setting → List Element → List Element → Type 0
LegalFrom S past [] = Unit {0}
LegalFrom S past (e ∷ rest) = May S past e × LegalFrom S (past ++ e ∷ []) rest

abbrev pub Legal : Setting → List Element → Type 0
Legal S H = LegalFrom S [] H
