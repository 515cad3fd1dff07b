-- The histories that printed marks stand for. A line doesn't say with which acts a block was put in; how many of them were feeds is
-- fixed by the homes, and that is all that the marks behind it depend on.
use Rattle.std.specs.Prelude.{ℕ, ◌+◌, ◌-◌, ◌*◌, ◌%◌, ◌==◌, if◌then◌else◌, List, [], ◌∷◌, ◌++◌, map}
use Rattle.std.specs.List.{enumerate_from, range_with_len}
use Rattle.perimeter_core.specs.declared.entries.Act.{Act}
use Rattle.perimeter_core.specs.declared.entries.Act.TheVariants as Did
use Rattle.perimeter_core.specs.declared.marks.Mark.{Mark}
use Rattle.perimeter_core.specs.declared.marks.Mark.TheVariants as On
use Rattle.perimeter_core.specs.declared.marks.SynchAct.TheVariants as Done
use Rattle.perimeter_core.specs.Deeds.{puts_in}
use Rattle.perimeter_core.specs.History.{Element}
use Rattle.histories.specs.Endings.{Ending}
use Rattle.conn_classifier.specs.Plan.{PlanOf}
use Rattle.conn_blocks.specs.CallLists.{CallLists}
use Rattle.ring_quotas.specs.declared.setup.Setup.{Setup}
use Rattle.ring_quotas.specs.Quotas.{setting_at}

-- how many of these marks put connection c in
abbrev pub times_in : ℕ → List Mark → ℕ
times_in c [] = 0
times_in c (m ∷ ms) = (if puts_in c m then 1 else 0) + times_in c ms

-- the stay of c that its In of this number at squeue q begins: stay s is at squeue (c + s) mod squeues, and stay 0 begins with no In
abbrev pub stay_of : ℕ → ℕ → ℕ → ℕ → ℕ
stay_of squeues q c number =
    let first = (q + squeues - c % squeues) % squeues in
    if first == 0 then squeues * (number + 1) else first + squeues * number

module _ (squeues spread q : ℕ) where
  -- a mark behind others, with its note: so many feeds as c has had when its stay begins
  abbrev pub note_of : List Mark → Mark → List Act
  note_of past (On.Leave p rest (Done.In c)) = map Did.Feed (range_with_len 0 (stay_of squeues q c (times_in c past) * spread))
  note_of past _ = []

  abbrev pub noted_from : List Mark → List Mark → List Element
  noted_from past [] = []
  noted_from past (m ∷ ms) = record { mark = m; note = note_of past m } ∷ noted_from (past ++ m ∷ []) ms

  -- the history of squeue q that has these marks
  abbrev pub noted : List Mark → List Element
  noted ms = noted_from [] ms

module _ (p : PlanOf) (calls : CallLists) (setup : Setup) where
  abbrev pub ending_of : ℕ × List Mark → Ending
  ending_of (q, marks) = record {
    number = q;
    setting = setting_at p calls setup.squeues setup.rings setup.spread q;
    history = noted setup.squeues setup.spread q marks;
  }

  -- by number
  abbrev pub endings_of : List (List Mark) → List Ending
  endings_of marks = map ending_of (enumerate_from 0 marks)
