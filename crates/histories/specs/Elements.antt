-- The elements that the calls of a squeue add.
use Rattle.std.specs.Prelude.{ℕ, List, [], ◌∷◌}
use Rattle.perimeter_core.specs.declared.entries.Feed.{Feed}
use Rattle.perimeter_core.specs.declared.entries.Act.{Act}
use Rattle.perimeter_core.specs.declared.marks.SynchAct.{SynchAct}
use Rattle.perimeter_core.specs.History.{Element, pass_of}
use Rattle.perimeter_core.specs.declared.marks.Kind.{Kind}
use Rattle.perimeter_core.specs.declared.marks.Kind.TheVariants as Kind'
use Rattle.perimeter_core.specs.Kinds.{mark_by}

abbrev pub number_of : Element → ℕ
number_of e = pass_of e.mark

-- the element of a release, by its pass, its kind, the feeds that it enters and its note
abbrev pub element_of : ℕ → Kind → List Feed → List Act → Element
element_of p kind fs note = record { mark = mark_by p kind fs; note = note }

abbrev pub filled_by : ℕ → List Feed → Element
filled_by p fs = element_of p Kind'.Fill fs []

abbrev pub fast_by : ℕ → Feed → Element
fast_by p f = element_of p Kind'.Fast (f ∷ []) []

abbrev pub claimed_by : ℕ → List Feed → Element
claimed_by p fs = element_of p Kind'.Claim fs []

-- the claim of the pass's own Ask
abbrev pub ask_claimed_by : ℕ → Element
ask_claimed_by p = element_of p Kind'.ClaimAsk [] []

abbrev pub taken_by : ℕ → Element
taken_by p = element_of p Kind'.Take [] []

abbrev pub left_by_pass : ℕ → ℕ → SynchAct → List Act → Element
left_by_pass p rest act note = element_of p (Kind'.Leave rest act) [] note

abbrev pub asked_by : ℕ → Element
asked_by p = element_of p Kind'.Ask [] []

abbrev pub granted_by : ℕ → ℕ → ℕ → Element
granted_by p j rest = element_of p (Kind'.Grant j rest) [] []

abbrev pub accepted_by : ℕ → Element
accepted_by p = element_of p Kind'.Accept [] []

abbrev pub worked_by : ℕ → Element
worked_by p = element_of p Kind'.Work [] []

abbrev pub closed_by : ℕ → Element
closed_by p = element_of p Kind'.Close [] []
