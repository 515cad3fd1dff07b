-- What a trace tells.
use Rattle.std.specs.Prelude.{ℕ, ◌+◌, ◌<◌, ◌≤◌, List, [], ◌∷◌, map, take, drop, slice_index_or}
use Rattle.perimeter_core.specs.declared.entries.Entry.{Entry}
use Rattle.perimeter_core.specs.declared.entries.Entry.TheVariants as Entry'
use Rattle.perimeter_core.specs.declared.marks.Mark.{Mark}
use Rattle.perimeter_core.specs.declared.marks.Mark.TheVariants as On
use Rattle.perimeter_core.specs.Deeds.{entries_of}
use Rattle.perimeter_core.specs.declared.marks.Kind.{Kind}
use Rattle.perimeter_core.specs.declared.marks.Kind.TheVariants as Kind'
use Rattle.squeue_state.specs.declared.trace.TraceMark.{TraceMark}
use Rattle.squeue_state.specs.declared.trace.TraceMark.TheVariants as Told

-- a trace keeps the entries that its mark names, and an Ask names none
abbrev pub noted_entries : Kind → Mark → List Entry
noted_entries Kind'.Ask m = []
noted_entries _ m = entries_of m

-- the mark of this kind names no entry
abbrev pub IsBare : Kind → Type 0
IsBare Kind'.Fill = ⊥
IsBare Kind'.Fast = ⊥
IsBare Kind'.Claim = ⊥
IsBare Kind'.ClaimAsk = ⊥
IsBare _ = Unit {0}

-- the marks and the entries that they name, and how many of each there is room for
pub record Traced : Type 0 where
  pub marks : List TraceMark
  pub entries : List Entry
  pub mark_room : ℕ
  pub entry_room : ℕ

-- the mark that one of a trace with these entries stands for
abbrev pub mark_of : List Entry → TraceMark → Mark
mark_of es (Told.Fill p first len) = On.Fill p (take len (drop first es))
mark_of es (Told.Fast p first) = On.Fast p (slice_index_or es first (Entry'.Ask 0))
mark_of es (Told.Claim p first len) = On.Claim p (take len (drop first es))
mark_of es (Told.Take p) = On.Take p
mark_of es (Told.Leave p rest act) = On.Leave p rest act
mark_of es (Told.Ask p) = On.Ask p
mark_of es (Told.Grant p j rest) = On.Grant p j rest
mark_of es (Told.Accept j) = On.Accept j
mark_of es (Told.Work p) = On.Work p
mark_of es (Told.Close p) = On.Close p

abbrev pub marks_of : Traced → List Mark
marks_of t = map (mark_of t.entries) t.marks

-- all places that the mark names are among the first n
abbrev pub Within : ℕ → TraceMark → Type 0
Within n (Told.Fill p first len) = first + len ≤ n
Within n (Told.Fast p first) = first < n
Within n (Told.Claim p first len) = first + len ≤ n
Within n _ = Unit {0}

abbrev pub AllWithin : ℕ → List TraceMark → Type 0
AllWithin n [] = Unit {0}
AllWithin n (m ∷ ms) = Within n m × AllWithin n ms
