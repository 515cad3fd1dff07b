-- The mark that a line was read as.
use Rattle.std.specs.Prelude.{◌≡◌, ◌≢◌, ℕ, ◌^◌, ◌<◌, ◌⊎◌, List, [], ◌∷◌, length}
use Rattle.perimeter_core.specs.declared.entries.Feed.{Feed}
use Rattle.perimeter_core.specs.declared.entries.Entry.{Entry}
use Rattle.perimeter_core.specs.declared.entries.Entry.TheVariants as Entered
use Rattle.perimeter_core.specs.declared.marks.Mark.{Mark}
use Rattle.perimeter_core.specs.declared.marks.Mark.TheVariants as On
use Rattle.perimeter_core.specs.declared.marks.SynchAct.{SynchAct}
use Rattle.perimeter_core.specs.declared.marks.SynchAct.TheVariants as Done
use Rattle.perimeter_core.specs.declared.marks.Kind.{Kind}
use Rattle.perimeter_core.specs.declared.marks.Kind.TheVariants as Kind'

-- passes, connections, feeds and calls are numbers of 32 bits
abbrev pub IsSmall : ℕ → Type 0
IsSmall n = n < 2 ^ 32

-- feeds alone
abbrev pub AreFeeds : List Entry → Type 0
AreFeeds [] = Unit {0}
AreFeeds (Entered.Feed c n ∷ es) = IsSmall c × IsSmall n × AreFeeds es
AreFeeds (Entered.Ask p ∷ es) = ⊥

abbrev pub IsPrintedAct : SynchAct → Type 0
IsPrintedAct (Done.Call c j k) = IsSmall c × IsSmall j × IsSmall k
IsPrintedAct (Done.Out c) = IsSmall c
IsPrintedAct (Done.In c) = IsSmall c
IsPrintedAct _ = Unit {0}

-- a mark that a line can say: it enters at least one feed, and feeds alone, or by a Claim its own Ask
abbrev pub IsPrinted : Mark → Type 0
IsPrinted (On.Fill p es) = IsSmall p × (es ≢ []) × AreFeeds es
IsPrinted (On.Fast p e) = IsSmall p × AreFeeds (e ∷ [])
IsPrinted (On.Claim p es) = IsSmall p × (((es ≢ []) × AreFeeds es) ⊎ (es ≡ Entered.Ask p ∷ []))
IsPrinted (On.Leave p rest act) = IsSmall p × (rest < 2 ^ 64) × IsPrintedAct act
IsPrinted (On.Grant p j rest) = IsSmall p × IsSmall j × (rest < 2 ^ 64)
IsPrinted (On.Take p) = IsSmall p
IsPrinted (On.Ask p) = IsSmall p
IsPrinted (On.Accept j) = IsSmall j
IsPrinted (On.Work p) = IsSmall p
IsPrinted (On.Close p) = IsSmall p

-- the feeds that were read are those that the mark enters: a Fast has one, and what enters no feeds has none
abbrev pub HasItsFeeds : Kind → List Feed → Type 0
HasItsFeeds Kind'.Fill fs = Unit {0}
HasItsFeeds Kind'.Claim fs = Unit {0}
HasItsFeeds Kind'.Fast fs = length fs ≡ 1
HasItsFeeds _ fs = fs ≡ []
