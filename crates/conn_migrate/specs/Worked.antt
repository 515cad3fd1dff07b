-- Two histories written out. Here no more than what is in them; what they tell of the stays, module worked says.
use Rattle.std.specs.Prelude.{true, false, List, [], ◌∷◌}
use Rattle.perimeter_core.specs.declared.entries.Act.{Act}
use Rattle.perimeter_core.specs.declared.entries.Act.TheVariants as Did
use Rattle.perimeter_core.specs.declared.entries.Entry.TheVariants.{Feed, Ask}
use Rattle.perimeter_core.specs.declared.marks.SynchAct.TheVariants as Done
use Rattle.perimeter_core.specs.declared.marks.Mark.TheVariants as On
use Rattle.perimeter_core.specs.History.{Element, Setting, plain}
use Rattle.histories.specs.Endings.{Ending}

-- There and back. Connection 0 is at squeue 0 at the start. There its ring enters feed 0, takes the block out, and later puts
-- it in again and enters feed 2; in between the block is at squeue 1, where it has feed 1
abbrev pub home : Setting
home =
    record { rings = 1; quotas = (2, 2) ∷ []; starts = true ∷ []; limits = record { feeds = 3 ∷ []; leaves = 1 ∷ []; calls = [] } }

abbrev pub abroad : Setting
abroad =
    record { rings = 1; quotas = (1, 2) ∷ []; starts = false ∷ []; limits = record { feeds = 3 ∷ []; leaves = 1 ∷ []; calls = [] } }

abbrev pub at_home : List Element
at_home =
    plain (On.Fill 0 (Feed 0 0 ∷ []))
    ∷ plain (On.Claim 0 (Ask 0 ∷ []))
    ∷ plain (On.Leave 0 0 (Done.Out 0))
    ∷ plain (On.Claim 0 (Ask 0 ∷ []))
    ∷ record { mark = On.Leave 0 0 (Done.In 0); note = Did.Feed 0 ∷ Did.Feed 1 ∷ [] }
    ∷ plain (On.Fast 0 (Feed 0 2))
    ∷ plain (On.Leave 0 0 Done.None)
    ∷ []

abbrev pub at_the_other : List Element
at_the_other =
    plain (On.Claim 0 (Ask 0 ∷ []))
    ∷ record { mark = On.Leave 0 0 (Done.In 0); note = Did.Feed 0 ∷ [] }
    ∷ plain (On.Fast 0 (Feed 0 1))
    ∷ plain (On.Leave 0 0 Done.None)
    ∷ plain (On.Claim 0 (Ask 0 ∷ []))
    ∷ plain (On.Leave 0 0 (Done.Out 0))
    ∷ []

abbrev pub there_and_back : List Ending
there_and_back =
    record { number = 0; setting = home; history = at_home }
    ∷ record { number = 1; setting = abroad; history = at_the_other }
    ∷ []

abbrev pub all_three : List Act
all_three = Did.Feed 0 ∷ Did.Feed 1 ∷ Did.Feed 2 ∷ []
