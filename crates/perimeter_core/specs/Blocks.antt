-- The blocks that a resident stands for, and how processed entries and acts change them.
use Rattle.std.specs.Prelude.{◌≡◌, ℕ, Bool, false, if◌then◌else◌, ◌==◌, Option, Some, None, List, [], ◌∷◌, ◌++◌, slice_index_or}
use Rattle.perimeter_core.specs.declared.entries.Act.{Act}
use Rattle.perimeter_core.specs.declared.entries.Act.TheVariants as Did
use Rattle.perimeter_core.specs.declared.entries.Entry.{Entry}
use Rattle.perimeter_core.specs.declared.marks.SynchAct.{SynchAct}
use Rattle.perimeter_core.specs.declared.marks.SynchAct.TheVariants as Done
use Rattle.perimeter_core.specs.declared.marks.Mark.{Mark}
use Rattle.perimeter_core.specs.declared.marks.Mark.TheVariants as On
use Rattle.perimeter_core.specs.Perimeter.{is_here}
use Rattle.perimeter_core.specs.History.{Element, Setting, run}
use Rattle.perimeter_core.specs.Deeds.{done_by, feed_acts, acts}

-- for each connection that is here, the acts that were done to its block
abbrev pub Blocks : Type 0
Blocks = ℕ → Option (List Act)

-- the connections that are here after a history, each with its acts
abbrev pub peri : Setting → List Element → Blocks
peri S H c = if is_here (run S H) c then Some (acts S H c) else None

-- the connections with a flag are here, and nothing was done to them
abbrev pub fresh : Bool → Option (List Act)
fresh here = if here then Some [] else None

abbrev pub none_done : List Bool → Blocks
none_done starts c = fresh (slice_index_or starts c false)

-- a block, if it is here, after more acts
abbrev pub longer : List Act → Option (List Act) → Option (List Act)
longer more (Some had) = Some (had ++ more)
longer more None = None

-- the blocks after these entries were processed
abbrev pub with_feeds : List Entry → Blocks → Blocks
with_feeds es blocks c = longer (feed_acts c es) (blocks c)

-- the blocks after an act; a part that is put in stands for the note
abbrev pub with_act : SynchAct → List Act → Blocks → Blocks
with_act (Done.Call c j k) note blocks d = if c == d then longer (Did.Call j k ∷ []) (blocks d) else blocks d
with_act (Done.Out c) note blocks d = if c == d then None else blocks d
with_act (Done.In c) note blocks d = if c == d then Some note else blocks d
with_act _ note blocks d = blocks d

-- the act that a mark reports
abbrev pub act_of : Mark → SynchAct
act_of (On.Leave p rest act) = act
act_of _ = Done.None

-- The blocks after one more element are those before it with the entries that it reports, and then its act
abbrev pub PeriGoesOn : Setting → List Element → Element → Type 0
PeriGoesOn S H e = peri S (H ++ e ∷ []) ≡ with_act (act_of e.mark) e.note (with_feeds (done_by (run S H) e.mark) (peri S H))
