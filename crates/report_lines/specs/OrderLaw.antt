-- The entries of an order give its acts again, and no two runs beside each other could be one.
use Rattle.std.specs.Prelude.{◌≡◌, ◌+◌, ◌-◌, List, [], ◌∷◌, map}
use Rattle.std.specs.List.{range_with_len}
use Rattle.perimeter_core.specs.declared.entries.Act.{Act}
use Rattle.perimeter_core.specs.declared.entries.Act.TheVariants as act
use Rattle.report_lines.specs.ReportText.{Entry, feeds, call}

-- the acts that an entry stands for
abbrev pub acts_of : Entry → List Act
acts_of (feeds m n) = map (λ k. act.Feed k) (range_with_len m (n + 1 - m))
acts_of (call j k) = act.Call j k ∷ []

-- behind a run stands no run that goes on from it
abbrev pub AreMaximal : List Entry → Type 0
AreMaximal [] = Unit {0}
AreMaximal (call j k ∷ es) = AreMaximal es
AreMaximal (feeds m n ∷ []) = Unit {0}
AreMaximal (feeds m n ∷ call j k ∷ es) = AreMaximal (call j k ∷ es)
AreMaximal (feeds m n ∷ feeds k l ∷ es) = (n + 1 ≡ k → ⊥) × AreMaximal (feeds k l ∷ es)
