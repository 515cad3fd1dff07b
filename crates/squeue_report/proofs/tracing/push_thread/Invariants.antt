use Rattle.std.proofs.Common.{◌≡◌, take}
use Rattle.std.specs.List.{flat_map}
use Rattle.conn_blocks.specs.CallLists.{calls_of}
use Rattle.report_lines.specs.TraceText.{call_line}
use Rattle.text_digits.specs.Told.{more}
use Rattle.squeue_report.proofs.tracing.push_thread.Given as goal

abbrev pub invariant-loop-k : goal.invariant-loop-k
invariant-loop-k g l = g.T.TextEnd.told l.text ≡ more (g.T.TextEnd.told l.initial.text) (flat_map (call_line l.j) (take l.k (calls_of l.calls l.j)))
