-- The stays of a connection whose block moves from squeue to squeue.
use Rattle.std.specs.Prelude.{◌≡◌, ℕ, zero, suc, ◌+◌, ◌/◌, ◌%◌, ◌<◌, ◌≤◌, ◌==◌, if◌then◌else◌, Option, Some, None, List, [], ◌∷◌, ◌++◌, length, slice_get}
use Rattle.perimeter_core.specs.declared.entries.Act.{Act}
use Rattle.perimeter_core.specs.Perimeter.{State, after, is_here}
use Rattle.perimeter_core.specs.History.{Element, Setting, start}
use Rattle.perimeter_core.specs.Deeds.{acts, acts_after, reported, puts_in, takes_out}
use Rattle.perimeter_core.specs.Legal.{Legal}
use Rattle.histories.specs.Endings.{Ending}

-- A stay of the block at one squeue: the note with which it came, what was done to it there, and all that was ever done to it
-- by that squeue's history, up to the last of it
pub record Stay : Type 0 where
  pub note : List Act
  pub own : List Act
  pub had : List Act

-- the stays of one connection at one squeue, in order: those that have ended, and the one that goes on
pub record Stays : Type 0 where
  pub ended : List Stay
  pub now : Option Stay

abbrev pub as_list : Option Stay → List Stay
as_list None = []
as_list (Some v) = v ∷ []

abbrev pub all_in : Stays → List Stay
all_in v = v.ended ++ as_list v.now

abbrev pub begun : List Act → Stay
begun note = record { note = note; own = []; had = note }

-- the stay that goes on, with these acts more
abbrev pub longer_by : List Act → List Act → Option Stay → Option Stay
longer_by more had None = None
longer_by more had (Some v) = Some (record { note = v.note; own = v.own ++ more; had = had })

-- An In begins a stay. What any other mark reports is done in the stay that goes on, and an Out then ends it
abbrev pub stays_after : ℕ → State → List Act → Stays → Element → Stays
stays_after c s had v e =
    if puts_in c e.mark then record { ended = all_in v; now = Some (begun e.note) }
    else if takes_out c e.mark then record { ended = v.ended ++ as_list (longer_by (reported c s e.mark) (acts_after c s had e) v.now); now = None }
    else record { ended = v.ended; now = longer_by (reported c s e.mark) (acts_after c s had e) v.now }

abbrev pub stays_from : ℕ → State → List Act → Stays → List Element → Stays
stays_from c s had v [] = v
stays_from c s had v (e ∷ H) = stays_from c (after s e.mark) (acts_after c s had e) (stays_after c s had v e) H

-- where the block is here at the start, its first stay begins there
abbrev pub stays : Setting → List Element → ℕ → Stays
stays S H c = stays_from c (start S) [] record { ended = []; now = if is_here (start S) c then Some (begun []) else None } H

-- all that a history reports of c, in order
abbrev pub reports_from : ℕ → State → List Element → List Act
reports_from c s [] = []
reports_from c s (e ∷ H) = reported c s e.mark ++ reports_from c (after s e.mark) H

abbrev pub reports : Setting → List Element → ℕ → List Act
reports S H c = reports_from c (start S) H

-- what was done in stays, one after another
abbrev pub done_in : List Stay → List Act
done_in [] = []
done_in (v ∷ vs) = v.own ++ done_in vs

abbrev pub note_of : Option Stay → Option (List Act)
note_of None = None
note_of (Some v) = Some v.note

-- the same stays have ended, and the one that goes on came with the same note
pub record AreSameStays (before now : Stays) : Type 0 where
  pub ended : now.ended ≡ before.ended
  pub note : note_of now.now ≡ note_of before.now

-- The element ended the stay that went on, which then has all that was ever done to the block
pub record EndsAStay (S : Setting) (H : List Element) (e : Element) (c : ℕ) : Type 0 where
  pub last : Stay
  pub ends : stays S (H ++ e ∷ []) c ≡ record { ended = (stays S H c).ended ++ last ∷ []; now = None }
  pub has_all : last.had ≡ acts S (H ++ e ∷ []) c

abbrev pub stays_in : Option Ending → ℕ → Stays
stays_in None c = record { ended = []; now = None }
stays_in (Some h) c = stays h.setting h.history c

-- With S squeues, one history each, stay s of connection c is at squeue (c + s) mod S, as its stay s div S there
abbrev pub stays_at : List Ending → ℕ → ℕ → Stays
stays_at hs c s = stays_in (slice_get hs ((c + s) % length hs)) c

abbrev pub stay : List Ending → ℕ → ℕ → Option Stay
stay hs c s = slice_get (all_in (stays_at hs c s)) (s / length hs)

-- the same, if it has ended
abbrev pub ended_stay : List Ending → ℕ → ℕ → Option Stay
ended_stay hs c s = slice_get (stays_at hs c s).ended (s / length hs)

abbrev pub AreLegal : List Ending → Type 0
AreLegal hs = (q : ℕ) (h : Ending) → slice_get hs q ≡ Some h → Legal h.setting h.history

-- at the start c is here at squeue c mod S, and at no other
abbrev pub StartsAtHome : List Ending → ℕ → Type 0
StartsAtHome hs c = (q : ℕ) (h : Ending) → slice_get hs q ≡ Some h → is_here (start h.setting) c ≡ (q == c % length hs)

-- The In that begins stay s + 1 notes all that was done to the block up to and including the Out that ended stay s
abbrev pub IsLinked : List Ending → ℕ → Type 0
IsLinked hs c = (s : ℕ) (v : Stay) → stay hs c (s + 1) ≡ Some v → (u : Stay) × (ended_stay hs c s ≡ Some u) × (v.note ≡ u.had)

-- The histories of all squeues, in which connections 0 to n - 1 begin at home and go from stay to stay
pub record AreLinked (n : ℕ) (hs : List Ending) : Type 0 where
  pub legal : AreLegal hs
  pub home : (c : ℕ) → c < n → StartsAtHome hs c
  pub linked : (c : ℕ) → c < n → IsLinked hs c

abbrev pub own_of : Option Stay → List Act
own_of None = []
own_of (Some v) = v.own

-- what was done in the first n stays, one after another
abbrev pub joined : List Ending → ℕ → ℕ → List Act
joined hs c zero = []
joined hs c (suc n) = joined hs c n ++ own_of (stay hs c n)

-- There are n stays, and these are the acts done in them, one after another
pub record AreOfAllStays (hs : List Ending) (c : ℕ) (done : List Act) : Type 0 where
  pub count : ℕ
  pub each : (s : ℕ) → s < count → (v : Stay) × (stay hs c s ≡ Some v)
  pub none_else : (s : ℕ) → count ≤ s → stay hs c s ≡ None
  pub are_joined : done ≡ joined hs c count
