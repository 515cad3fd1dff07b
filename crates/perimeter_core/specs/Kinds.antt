-- A mark by its pass, its kind and the feeds that it enters. What makes or reads a mark at run time has these.
use Rattle.std.specs.Prelude.{ℕ, List, [], ◌∷◌}
use Rattle.perimeter_core.specs.declared.entries.Feed.{Feed}
use Rattle.perimeter_core.specs.declared.entries.Entry.{Entry}
use Rattle.perimeter_core.specs.declared.entries.Entry.TheVariants as Entered
use Rattle.perimeter_core.specs.declared.marks.Mark.{Mark}
use Rattle.perimeter_core.specs.declared.marks.Mark.TheVariants as On
use Rattle.perimeter_core.specs.declared.marks.Kind.{Kind}
use Rattle.perimeter_core.specs.declared.marks.Kind.TheVariants as Kind'
use Rattle.perimeter_core.specs.Deeds.{entries}

-- the one entry of a Fast; where no feed is given it is none
abbrev pub fast_entry : ℕ → List Feed → Entry
fast_entry p [] = Entered.Ask p
fast_entry p (f ∷ fs) = Entered.Feed f.c f.n

abbrev pub mark_by : ℕ → Kind → List Feed → Mark
mark_by p Kind'.Fill fs = On.Fill p (entries fs)
mark_by p Kind'.Fast fs = On.Fast p (fast_entry p fs)
mark_by p Kind'.Claim fs = On.Claim p (entries fs)
mark_by p Kind'.ClaimAsk fs = On.Claim p (Entered.Ask p ∷ [])
mark_by p Kind'.Take fs = On.Take p
mark_by p (Kind'.Leave rest act) fs = On.Leave p rest act
mark_by p Kind'.Ask fs = On.Ask p
mark_by p (Kind'.Grant j rest) fs = On.Grant p j rest
mark_by p Kind'.Accept fs = On.Accept p
mark_by p Kind'.Work fs = On.Work p
mark_by p Kind'.Close fs = On.Close p
