-- The feeds that a block has had, by their numbers.
use Rattle.std.specs.Prelude.{◌≡◌, ℕ, ◌<◌, true, List, [], ◌∷◌, ◌++◌, slice_index}
use Rattle.perimeter_core.specs.declared.entries.Act.{Act}
use Rattle.perimeter_core.specs.declared.entries.Entry.{Entry}
use Rattle.perimeter_core.specs.Perimeter.{is_here}
use Rattle.perimeter_core.specs.History.{Element, Setting, run}
use Rattle.perimeter_core.specs.Deeds.{puts_in, fed, feed_numbers, feed_acts, acts}
use Rattle.perimeter_core.specs.Backlog.{up}

-- A feed of the hand, behind the entries xs: its connection is here, has had all earlier feeds when xs are processed, and may have it
pub record FeedFits (S : Setting) (H : List Element) (xs : List Entry) (c n : ℕ) : Type 0 where
  pub here : is_here (run S H) c ≡ true
  pub had : fed (acts S H c ++ feed_acts c xs) ≡ n
  pub limit : n < slice_index S.limits.feeds c

-- the feeds of a list of acts are numbered from 0
abbrev pub IsNumbered : List Act → Type 0
IsNumbered had = feed_numbers had ≡ up 0 (fed had)

-- so are those of each note with which c was put in
abbrev pub NotesNumbered : ℕ → List Element → Type 0
NotesNumbered c [] = Unit {0}
NotesNumbered c (e ∷ H) = (puts_in c e.mark ≡ true → IsNumbered e.note) × NotesNumbered c H
