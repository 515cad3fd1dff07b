-- What a report may say from its setup on: a setup, calls and marks whose numbers fit their fields.
use Rattle.std.specs.Prelude.{◌≡◌, ℕ, ◌^◌, ◌<◌, ◌≤◌, All, Bool, true, if◌then◌else◌, List, [], ◌∷◌, ◌++◌, codes, length, take}
use Rattle.std.specs.List.{enumerate_from, flat_map}
use Rattle.perimeter_core.specs.declared.marks.Mark.{Mark}
use Rattle.tcb_machine.specs.Limits.{plain_space}
use Rattle.tcb_machine.specs.declared.kinds.Call.{Call}
use Rattle.tcb_machine.specs.declared.kinds.Call.TheVariants as Asks
use Rattle.conn_classifier.specs.Rules.{usual}
use Rattle.conn_classifier.specs.declared.rules.Rules.{Rules}
use Rattle.conn_blocks.specs.CallLists.{CallLists, call_count}
use Rattle.conn_blocks.specs.Limits.{callers, most_calls}
use Rattle.ring_quotas.specs.Limits.{most_budget}
use Rattle.ring_quotas.specs.declared.setup.Setup.{Setup}
use Rattle.ring_quotas.specs.Quotas.{IsInRange}
use Rattle.report_lines.specs.ReportText.{done_line}
use Rattle.report_lines.specs.TraceText.{setup_line, calls_text, squeue_text}
use Rattle.squeue_replay.specs.Marks.{IsPrinted}

-- a call on one of so many connections
abbrev pub IsPrintedCall : ℕ → ℕ × Call → Type 0
IsPrintedCall conns (c, Asks.Buffer n) = (c < conns) × (n ≤ plain_space)
IsPrintedCall conns (c, _) = c < conns

-- a setup of a run that kept its marks
pub record IsPrintedSetup (s : Setup) : Type 0 where
  pub range : IsInRange s
  pub budget : s.budget ≤ most_budget
  pub traced : s.trace ≡ true

-- the rules that its line tells: the ports are the well-known ones
abbrev pub ArePrintedRules : Rules → Type 0
ArePrintedRules rules = rules ≡ usual rules.verify

-- the numbers of its line
abbrev pub setup_numbers : Setup → Bool → List ℕ
setup_numbers s verify = s.squeues ∷ s.rings ∷ s.budget ∷ s.spread ∷ (if verify then 1 else 0) ∷ []

-- the calls of four threads, at most 1,024, each on one of so many connections
pub record ArePrintedCalls (conns : ℕ) (calls : CallLists) : Type 0 where
  pub threads : length calls ≡ callers
  pub few : call_count calls ≤ most_calls
  pub each : All (λ thread. All (IsPrintedCall conns) thread) calls

-- the marks of so many squeues
pub record ArePrintedMarks (squeues : ℕ) (marks : List (List Mark)) : Type 0 where
  pub count : length marks ≡ squeues
  pub few : All (λ ms. length ms < 2 ^ 64) marks
  pub each : All (λ ms. All IsPrinted ms) marks

-- the text goes on with a call
abbrev pub BeginsWithCall : List ℕ → Type 0
BeginsWithCall text = take 5 text ≡ codes "call "

-- what the lines say, from the setup on; of each squeue, by number, its marks
pub record Told : Type 0 where
  pub setup : Setup
  pub verify : Bool
  pub calls : CallLists
  pub marks : List (List Mark)

-- by what the plan was made
abbrev pub rules_told : Told → Rules
rules_told t = usual t.verify

abbrev pub told_text : Told → List ℕ
told_text t = setup_line t.setup (rules_told t) ++ (calls_text t.calls ++ (flat_map squeue_text (enumerate_from 0 t.marks) ++ done_line))

-- all of it is in range, where there are so many connections
pub record IsTold (conns : ℕ) (t : Told) : Type 0 where
  pub setup : IsPrintedSetup t.setup
  pub calls : ArePrintedCalls conns t.calls
  pub marks : ArePrintedMarks t.setup.squeues t.marks
