-- An input that replays: a report with the marks of histories that fit its setup, and its capture behind it.
use Rattle.std.specs.Prelude.{◌≡◌, ℕ, List, ◌++◌, length, map}
use Rattle.perimeter_core.specs.declared.entries.Act.{Act}
use Rattle.capture_reader.specs.Outcome.{CaptureFile}
use Rattle.pcapng_reader.specs.Input.{IsInput}
use Rattle.conn_classifier.specs.Plan.{plan_by}
use Rattle.histories.specs.Endings.{Ending}
use Rattle.ring_quotas.specs.Fits.{Fits}
use Rattle.report_lines.specs.TraceText.{trace_text}
use Rattle.trace_lines.specs.Printed.{Told, IsTold, rules_told}

-- the most bytes of an input: 1 GiB
abbrev pub most_input : ℕ
most_input = 1073741824

pub record Replays (input : List ℕ) : Type 0 where
  pub file : CaptureFile
  pub capture : IsInput file
  pub told : Told
  pub in_range : IsTold (length (plan_by file (rules_told told)).tuples) told
  -- the histories, of which the report has the marks
  pub histories : List Ending
  pub marks : told.marks ≡ map (λ e. map (λ m. m.mark) e.history) histories
  pub orders : List (List Act)
  pub count : length orders ≡ length (plan_by file (rules_told told)).tuples
  pub fits : Fits (plan_by file (rules_told told)) told.calls told.setup histories orders
  pub joined : input ≡ trace_text (plan_by file (rules_told told)) told.calls told.setup (rules_told told) orders told.marks ++ file.bytes
