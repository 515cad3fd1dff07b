use Rattle.std.proofs.Common.{◌≡◌, ◌+◌, ◌-◌, drop, map, take}
use Rattle.report_lines.specs.ReportText.{line_end}
use Rattle.report_lines.specs.TraceText.{entered_field}
use Rattle.text_digits.specs.Told.{more}
use Rattle.squeue_report.proofs.tracing.push_entries.Given as goal

-- what is written, with what is to be written
abbrev pub invariant-loop-i : goal.invariant-loop-i
invariant-loop-i g l =
    more (g.T.TextEnd.told l.text) (line_end (map entered_field (take (l.first + l.len - l.i) (drop l.i l.trace.entries))))
    ≡ more (g.T.TextEnd.told l.initial.text) (line_end (map entered_field (take l.len (drop l.first l.trace.entries))))
