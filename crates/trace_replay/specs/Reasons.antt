-- Why an input doesn't replay: the first reason that holds. Each reason has those before it behind it.
use Rattle.std.specs.Prelude.{◌≡◌, ◌≢◌, ℕ, ◌+◌, ◌<◌, ◌≤◌, ◌==◌, if◌then◌else◌, IfSome, List, Some, None, [], ◌∷◌, ◌++◌, length, take, slice_get, codes}
use Rattle.perimeter_core.specs.declared.entries.Act.{Act}
use Rattle.perimeter_core.specs.declared.marks.Mark.TheVariants as On
use Rattle.perimeter_core.specs.Deeds.{done}
use Rattle.perimeter_core.specs.Ending.{IsOver}
use Rattle.perimeter_core.specs.History.{Element, run}
use Rattle.perimeter_core.specs.Legal.{Legal, feed_count}
use Rattle.histories.specs.Endings.{Ending}
use Rattle.capture_reader.specs.Outcome.{CaptureFile}
use Rattle.histories.specs.Stays.{AreOfAllStays, Stay, ended_stay, stay}
use Rattle.conn_classifier.specs.Plan.{PlanOf, plan_by}
use Rattle.conn_blocks.specs.CallLists.{CallLists}
use Rattle.conn_blocks.specs.Orders.{IsWhole, settle}
use Rattle.histories.specs.Keeping.{KeepsPace, taken}
use Rattle.ring_quotas.specs.declared.setup.Setup.{Setup}
use Rattle.report_lines.specs.ReportText.{done_line}
use Rattle.report_lines.specs.TraceText.{trace_text}
use Rattle.trace_replay.specs.declared.reason.Reason.{Reason}
use Rattle.trace_replay.specs.declared.reason.Reason.TheVariants as reason
use Rattle.squeue_replay.specs.Histories.{endings_of}
use Rattle.trace_replay.specs.Lines.{EndsLine, HasFirstLine, HasNoLine}
use Rattle.trace_lines.specs.Printed.{Told, IsTold, rules_told, told_text}
use Rattle.pcapng_reader.specs.Input.{IsInput}

-- the input is a report up to its first line `done`, and what stands behind that
pub record IsCut (input report rest : List ℕ) : Type 0 where
  pub before : List ℕ
  pub first : HasFirstLine done_line input before
  pub report_is : report ≡ before ++ done_line
  pub joined : input ≡ report ++ rest

-- what stands behind the report is a capture
pub record IsRead (input report : List ℕ) (file : CaptureFile) : Type 0 where
  pub cut : IsCut input report file.bytes
  pub capture : IsInput file

-- the lines from the first that begins with `setup ` on say this
pub record Says (report : List ℕ) (file : CaptureFile) (told : Told) : Type 0 where
  pub before : List ℕ
  pub first : HasFirstLine (codes "setup ") report before
  pub in_range : IsTold (length (plan_by file (rules_told told)).tuples) told
  pub joined : report ≡ before ++ told_text told

-- all of this was read of the input
pub record HasForm (input report : List ℕ) (file : CaptureFile) (told : Told) : Type 0 where
  pub read : IsRead input report file
  pub says : Says report file told

-- the histories that the marks stand for
abbrev pub histories_in : CaptureFile → Told → List Ending
histories_in file t = endings_of (plan_by file (rules_told t)) t.calls t.setup t.marks

-- its first marks, so many
abbrev pub first_marks : ℕ → Ending → Ending
first_marks n e = record e { history = take n e.history }

-- the first n marks are legal, and one more isn't
pub record IsIllegalAt (e : Ending) (n : ℕ) : Type 0 where
  pub there : n < length e.history
  pub before : Legal e.setting (take n e.history)
  pub illegal : Legal e.setting (take (n + 1) e.history) → ⊥

-- the squeue has ended
abbrev pub HasClosed : Ending → Type 0
HasClosed e = IsOver e.setting (run e.setting e.history)

-- a Take too leaves a ring that took the perimeter with feeds within its budget
abbrev pub TakesFew : ℕ → ℕ → Ending → Type 0
TakesFew budget r e = (n : ℕ) (m : Element) → slice_get e.history n ≡ Some m → m.mark ≡ On.Take r
    → IfSome (taken e.setting r (take n e.history)) (λ had. feed_count (done e.setting (take (n + 1) e.history)) ≤ had + budget)

-- all rings' marks keep homes, mode and budget
pub record AreFit (setup : Setup) (q : ℕ) (e : Ending) : Type 0 where
  pub pace : (r : ℕ) → r < setup.rings → KeepsPace setup.squeues setup.spread setup.mode setup.budget q e.setting r e.history
  pub takes : (r : ℕ) → r < setup.rings → TakesFew setup.budget r e

-- the first n marks do, and one more doesn't
pub record IsUnfitAt (setup : Setup) (q : ℕ) (e : Ending) (n : ℕ) : Type 0 where
  pub there : n < length e.history
  pub before : AreFit setup q (first_marks n e)
  pub unfit : AreFit setup q (first_marks (n + 1) e) → ⊥

-- it holds of each history, by number; of each below q
abbrev pub OfEach : (ℕ → Ending → Type 0) → List Ending → Type 0
OfEach Holds hs = (q : ℕ) (e : Ending) → slice_get hs q ≡ Some e → Holds q e

abbrev pub OfEachBelow : ℕ → (ℕ → Ending → Type 0) → List Ending → Type 0
OfEachBelow k Holds hs = (q : ℕ) (e : Ending) → q < k → slice_get hs q ≡ Some e → Holds q e

abbrev pub AllLegal : List Ending → Type 0
AllLegal = OfEach (λ q e. Legal e.setting e.history)

abbrev pub AllClosed : List Ending → Type 0
AllClosed = OfEach (λ q e. HasClosed e)

abbrev pub AllFit : Setup → List Ending → Type 0
AllFit setup = OfEach (λ q e. AreFit setup q e)

-- an Out is missing: a stay has begun at a squeue, and the one before it hasn't ended
pub record MissesAnOut (hs : List Ending) (c : ℕ) : Type 0 where
  pub before : ℕ
  pub now : Stay
  pub begun : stay hs c (before + 1) ≡ Some now
  pub not_ended : ended_stay hs c before ≡ None

-- the order of connection c: what settles of the acts of all its stays, which is whole
pub record IsOrdered (p : PlanOf) (calls : CallLists) (hs : List Ending) (c : ℕ) (order : List Act) : Type 0 where
  pub left : MissesAnOut hs c → ⊥
  pub did : List Act
  pub all : AreOfAllStays hs c did
  pub settled : order ≡ settle calls c did
  pub whole : IsWhole p calls c order

-- the orders of all connections, by number
pub record AreOrdered (p : PlanOf) (calls : CallLists) (hs : List Ending) (orders : List (List Act)) : Type 0 where
  pub count : length orders ≡ length p.tuples
  pub each : (c : ℕ) (order : List Act) → slice_get orders c ≡ Some order → IsOrdered p calls hs c order

-- how many lines end in a text
abbrev pub lines_in : List ℕ → ℕ
lines_in [] = 0
lines_in (b ∷ bs) = (if b == 10 then 1 else 0) + lines_in bs

-- a whole line that begins both
pub record ShareLine (found right : List ℕ) : Type 0 where
  pub line : List ℕ
  pub found_after : List ℕ
  pub right_after : List ℕ
  pub found_is : found ≡ line ++ 10 ∷ found_after
  pub right_is : right ≡ line ++ 10 ∷ right_after
  pub one_line : lines_in line ≡ 0

-- the first line, from 1, at which they differ
pub record DifferAt (n : ℕ) (found right : List ℕ) : Type 0 where
  pub same : List ℕ
  pub found_left : List ℕ
  pub right_left : List ℕ
  pub found_is : found ≡ same ++ found_left
  pub right_is : right ≡ same ++ right_left
  pub lines : EndsLine same
  pub number : n ≡ lines_in same + 1
  pub differ : found_left ≢ right_left
  pub no_more : ShareLine found_left right_left → ⊥

-- what was read of the input, and this of it
pub record Reading (input : List ℕ) (Holds : List ℕ → CaptureFile → Told → Type 0) : Type 0 where
  pub report : List ℕ
  pub file : CaptureFile
  pub told : Told
  pub form : HasForm input report file told
  pub holds : Holds report file told

-- the marks of the histories fail for this reason
abbrev pub MarksFail : Setup → List Ending → Reason → Type 0
MarksFail setup hs (reason.Illegal q n) = OfEachBelow q (λ _ e. Legal e.setting e.history) hs × ((e : Ending) × (slice_get hs q ≡ Some e) × IsIllegalAt e n)
MarksFail setup hs (reason.Open q) = AllLegal hs × OfEachBelow q (λ _ e. HasClosed e) hs × ((e : Ending) × (slice_get hs q ≡ Some e) × (HasClosed e → ⊥))
MarksFail setup hs (reason.Unfit q n) =
    AllLegal hs × AllClosed hs × OfEachBelow q (λ k e. AreFit setup k e) hs × ((e : Ending) × (slice_get hs q ≡ Some e) × IsUnfitAt setup q e n)
MarksFail setup hs _ = ⊥

-- the marks of all squeues are legal and fit, and the squeues have ended
pub record AreRight (setup : Setup) (hs : List Ending) : Type 0 where
  pub legal : AllLegal hs
  pub closed : AllClosed hs
  pub fit : AllFit setup hs

-- connection c is the first without an order
pub record IsUnordered (p : PlanOf) (calls : CallLists) (hs : List Ending) (c : ℕ) : Type 0 where
  pub there : c < length p.tuples
  pub before : (d : ℕ) → d < c → (order : List Act) × IsOrdered p calls hs d order
  pub without : (order : List Act) → IsOrdered p calls hs c order → ⊥

pub record FailsAtOrder (c : ℕ) (file : CaptureFile) (t : Told) : Type 0 where
  pub right : AreRight t.setup (histories_in file t)
  pub unordered : IsUnordered (plan_by file (rules_told t)) t.calls (histories_in file t) c

pub record FailsAtLine (n : ℕ) (report : List ℕ) (file : CaptureFile) (t : Told) : Type 0 where
  pub right : AreRight t.setup (histories_in file t)
  pub orders : List (List Act)
  pub ordered : AreOrdered (plan_by file (rules_told t)) t.calls (histories_in file t) orders
  pub differ : DifferAt n report (trace_text (plan_by file (rules_told t)) t.calls t.setup (rules_told t) orders t.marks)

abbrev pub FailsAtMark : Reason → CaptureFile → Told → Type 0
FailsAtMark r file t = MarksFail t.setup (histories_in file t) r

-- the reason holds of the input, and none before it
abbrev pub Holds : Reason → List ℕ → Type 0
Holds reason.NoReport input = HasNoLine done_line input
Holds reason.Capture input = (report : List ℕ) × (rest : List ℕ) × IsCut input report rest × ((file : CaptureFile) → file.bytes ≡ rest → IsInput file → ⊥)
Holds reason.Form input = (report : List ℕ) × (file : CaptureFile) × IsRead input report file × ((told : Told) → Says report file told → ⊥)
Holds (reason.Illegal q n) input = Reading input (λ _. FailsAtMark (reason.Illegal q n))
Holds (reason.Open q) input = Reading input (λ _. FailsAtMark (reason.Open q))
Holds (reason.Unfit q n) input = Reading input (λ _. FailsAtMark (reason.Unfit q n))
Holds (reason.Order c) input = Reading input (λ _. FailsAtOrder c)
Holds (reason.Text n) input = Reading input (FailsAtLine n)
