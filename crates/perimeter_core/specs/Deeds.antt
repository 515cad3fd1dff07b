-- What a history did: what was entered, what was processed, and what was done to each connection's block.
use Rattle.std.specs.Prelude.{ℕ, ◌+◌, Bool, false, if◌then◌else◌, ◌==◌, List, [], ◌∷◌, ◌++◌, length}
use Rattle.perimeter_core.specs.declared.entries.Act.{Act}
use Rattle.perimeter_core.specs.declared.entries.Act.TheVariants as Did
use Rattle.perimeter_core.specs.declared.entries.Feed.{Feed as FeedOf}
use Rattle.perimeter_core.specs.declared.entries.Entry.{Entry}
use Rattle.perimeter_core.specs.declared.entries.Entry.TheVariants.{Feed, Ask}
use Rattle.perimeter_core.specs.declared.marks.SynchAct.TheVariants as Done
use Rattle.perimeter_core.specs.declared.marks.Mark.{Mark}
use Rattle.perimeter_core.specs.declared.marks.Mark.TheVariants as On
use Rattle.perimeter_core.specs.Perimeter.{State, after, processed}
use Rattle.perimeter_core.specs.History.{Element, Setting, start}

-- a chain of feeds, as entries
abbrev pub entries : List FeedOf → List Entry
entries [] = []
entries (f ∷ fs) = Feed f.c f.n ∷ entries fs

-- the entries that a mark enters
abbrev pub entries_of : Mark → List Entry
entries_of (On.Fill p es) = es
entries_of (On.Fast p e) = e ∷ []
entries_of (On.Claim p es) = es
entries_of (On.Ask p) = Ask p ∷ []
entries_of _ = []

-- the entries that a mark reports as processed
abbrev pub done_by : State → Mark → List Entry
done_by s (On.Take p) = s.hand
done_by s (On.Leave p rest act) = processed rest s.hand
done_by s (On.Grant p j rest) = processed rest s.hand
done_by s _ = []

abbrev pub entered : List Element → List Entry
entered [] = []
entered (e ∷ H) = entries_of e.mark ++ entered H

abbrev pub done_from : State → List Element → List Entry
done_from s [] = []
done_from s (e ∷ H) = done_by s e.mark ++ done_from (after s e.mark) H

abbrev pub done : Setting → List Element → List Entry
done S H = done_from (start S) H

-- the numbers of the feeds of c in a list of entries
abbrev pub feeds_of : ℕ → List Entry → List ℕ
feeds_of c [] = []
feeds_of c (Feed d n ∷ es) = if d == c then n ∷ feeds_of c es else feeds_of c es
feeds_of c (Ask p ∷ es) = feeds_of c es

-- how many feeds a list of acts has, and their numbers
abbrev pub fed : List Act → ℕ
fed [] = 0
fed (Did.Feed n ∷ others) = 1 + fed others
fed (Did.Call j k ∷ others) = fed others

abbrev pub feed_numbers : List Act → List ℕ
feed_numbers [] = []
feed_numbers (Did.Feed n ∷ others) = n ∷ feed_numbers others
feed_numbers (Did.Call j k ∷ others) = feed_numbers others

-- the mark puts the block of c in; it takes the block of c out
abbrev pub puts_in : ℕ → Mark → Bool
puts_in c (On.Leave p rest (Done.In d)) = d == c
puts_in c _ = false

abbrev pub takes_out : ℕ → Mark → Bool
takes_out c (On.Leave p rest (Done.Out d)) = d == c
takes_out c _ = false

-- how often the block of c was taken out
abbrev pub times_left : ℕ → List Element → ℕ
times_left c [] = 0
times_left c (e ∷ H) = (if takes_out c e.mark then 1 else 0) + times_left c H

-- the number of the next feed of c: the feeds in the note of the last In of c, and those entered since
abbrev pub due_after : ℕ → ℕ → Element → ℕ
due_after c n e = if puts_in c e.mark then fed e.note else n + length (feeds_of c (entries_of e.mark))

abbrev pub due_from : ℕ → ℕ → List Element → ℕ
due_from c n [] = n
due_from c n (e ∷ H) = due_from c (due_after c n e) H

abbrev pub due : List Element → ℕ → ℕ
due H c = due_from c 0 H

-- the feeds of c among these entries, as acts
abbrev pub feed_acts : ℕ → List Entry → List Act
feed_acts c [] = []
feed_acts c (Feed d n ∷ es) = if d == c then Did.Feed n ∷ feed_acts c es else feed_acts c es
feed_acts c (Ask p ∷ es) = feed_acts c es

-- the call on c that a mark reports
abbrev pub call_act : ℕ → Mark → List Act
call_act c (On.Leave p rest (Done.Call d j k)) = if d == c then Did.Call j k ∷ [] else []
call_act c _ = []

-- what a mark reports of c: the feeds that were processed, and the call that was made
abbrev pub reported : ℕ → State → Mark → List Act
reported c s m = feed_acts c (done_by s m) ++ call_act c m

-- the acts on c: the note of the last In of c, and the feeds and calls done since
abbrev pub acts_after : ℕ → State → List Act → Element → List Act
acts_after c s had e = if puts_in c e.mark then e.note else had ++ reported c s e.mark

abbrev pub acts_from : ℕ → State → List Act → List Element → List Act
acts_from c s had [] = had
acts_from c s had (e ∷ H) = acts_from c (after s e.mark) (acts_after c s had e) H

abbrev pub acts : Setting → List Element → ℕ → List Act
acts S H c = acts_from c (start S) [] H
