use Rattle.std.proofs.Common.{◌≡◌, take}
use Rattle.std.specs.List.{flat_map}
use Rattle.squeue_state.specs.Told.{marks_of}
use Rattle.report_lines.specs.TraceText.{mark_line}
use Rattle.text_digits.specs.Told.{more}
use Rattle.squeue_report.proofs.tracing.push_marks.Given as goal

abbrev pub invariant-loop-i : goal.invariant-loop-i
invariant-loop-i g l = g.T.TextEnd.told l.text ≡ more (g.T.TextEnd.told l.initial.text) (flat_map mark_line (take l.i (marks_of l.trace)))
