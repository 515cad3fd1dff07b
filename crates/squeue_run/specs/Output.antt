-- The output of a run. Each connection's replies are those of one thread that serves the connection's printed order of entries.
use Rattle.std.specs.Prelude.{◌≡◌, ℕ, ◌<◌, if◌then◌else◌, List, [], map, length, get_or}
use Rattle.std.specs.List.{range_with_len}
use Rattle.perimeter_core.specs.declared.entries.Act.{Act}
use Rattle.perimeter_core.specs.declared.entries.Act.TheVariants as act
use Rattle.perimeter_core.specs.declared.marks.Mark.{Mark}
use Rattle.capture_reader.specs.Outcome.{CaptureFile, IsCapture}
use Rattle.conn_classifier.specs.Plan.{PlanOf, plan_by}
use Rattle.conn_blocks.specs.CallLists.{CallLists}
use Rattle.conn_blocks.specs.Orders.{IsWhole}
use Rattle.ring_threads.specs.Served.{HasServed, ServedOf, orders_of}
use Rattle.report_lines.specs.ReportText.{report_text}
use Rattle.squeue_report.specs.SummaryText.{summary_text}
use Rattle.report_lines.specs.TraceText.{trace_text}
use Rattle.squeue_run.specs.Asked.{Asked, rules_of}
use Rattle.squeue_run.specs.CallWords.{lists_of}
use Rattle.squeue_run.specs.GeneratedCapture.{generated}

-- by number each connection's order: its captured items once, in capture order, and each call on it once, in its thread's order
pub record AreOrders (p : PlanOf) (calls : CallLists) (orders : List (List Act)) : Type 0 where
  pub count : length orders ≡ length p.tuples
  pub whole : (c : ℕ) → c < length p.tuples → IsWhole p calls c (get_or orders c [])

-- by number each connection's items, from the first to the last
abbrev pub items_alone : PlanOf → List (List Act)
items_alone p = map (λ items. map act.Feed (range_with_len 0 (length items))) p.items

-- by number the marks of each squeue's history
abbrev pub histories_of : ServedOf → List (List Mark)
histories_of v = map (λ e. map (λ m. m.mark) e.history) v.ended

-- the plan of a capture, as the words ask for it
abbrev pub plan_for : CaptureFile → Asked → PlanOf
plan_for file a = plan_by file (rules_of a)

-- the report of what was served: where a trace is asked for, with the setup, the calls and the marks of the histories
abbrev pub told_of : PlanOf → CallLists → Asked → ServedOf → List ℕ
told_of p calls a v =
    if a.setup.trace then trace_text p calls a.setup (rules_of a) (orders_of v) (histories_of v)
    else report_text p calls (orders_of v)

-- The report of a capture, where this was served. Without calls the orders are a function of the capture alone, and so is the report but for its trace
pub record IsReport (file : CaptureFile) (a : Asked) (v : ServedOf) (text : List ℕ) : Type 0 where
  pub served : HasServed (plan_for file a) (lists_of a.calls) a.setup v
  pub whole : AreOrders (plan_for file a) (lists_of a.calls) (orders_of v)
  pub alone : a.calls ≡ [] → orders_of v ≡ items_alone (plan_for file a)
  pub says : text ≡ told_of (plan_for file a) (lists_of a.calls) a v

-- the input that is generated for a number
pub record IsGenerated (number : ℕ) (file : CaptureFile) : Type 0 where
  pub bytes : file.bytes ≡ generated number
  pub capture : IsCapture file

-- the summary of the report of a generated input, where this was served; it is a function of the number and the flag alone
pub record IsSummary (number : ℕ) (a : Asked) (v : ServedOf) (text : List ℕ) : Type 0 where
  pub file : CaptureFile
  pub generated : IsGenerated number file
  pub served : HasServed (plan_for file a) (lists_of []) a.setup v
  pub alone : orders_of v ≡ items_alone (plan_for file a)
  pub says : text ≡ summary_text number file.bytes (plan_for file a) (lists_of []) (items_alone (plan_for file a))
