use Rattle.std.proofs.Common.{◌≡◌, map, take}
use Rattle.std.specs.List.{enumerate_from, flat_map}
use Rattle.text_digits.specs.Told.{more}
use Rattle.squeue_state.specs.Told.{marks_of}
use Rattle.report_lines.specs.TraceText.{squeue_text}
use Rattle.squeue_report.proofs.tracing.push_report2.Given as goal

abbrev pub invariant-loop-q : goal.invariant-loop-q
invariant-loop-q g l = g.T.TextEnd.told l.text ≡ more (g.T.TextEnd.told l.initial.text) (flat_map squeue_text (take l.q (enumerate_from 0 (map marks_of l.served.traces))))
