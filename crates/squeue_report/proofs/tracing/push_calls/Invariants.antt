use Rattle.std.proofs.Common.{◌≡◌, ◌<◌, length, take}
use Rattle.std.specs.List.{enumerate_from, flat_map}
use Rattle.conn_blocks.specs.Limits.{callers}
use Rattle.report_lines.specs.TraceText.{thread_text}
use Rattle.text_digits.specs.Told.{more}
use Rattle.squeue_report.proofs.tracing.push_calls.Given as goal

abbrev pub invariant-loop-j : goal.invariant-loop-j
invariant-loop-j g l =
    record {
      text : g.T.TextEnd.told l.text ≡ more (g.T.TextEnd.told l.initial.text) (flat_map thread_text (take l.j (enumerate_from 0 l.calls)));
      threads : 0 < l.j → length l.calls ≡ callers;
    }
