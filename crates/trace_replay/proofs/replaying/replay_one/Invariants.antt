use Rattle.std.proofs.Common.{◌≡◌, ◌+◌, ◌≤◌, All, List, length}
use Rattle.std.specs.List.{flat_map}
use Rattle.perimeter_core.specs.declared.marks.Mark.{Mark}
use Rattle.report_lines.specs.TraceText.{mark_line}
use Rattle.squeue_replay.specs.Marks.{IsPrinted}
use Rattle.squeue_replay.specs.Replaying.{squeue_of}
use Rattle.trace_replay.proofs.Reaching.{Reached}
use Rattle.trace_replay.proofs.replaying.replay_one.Given as goal

abbrev pub invariant-loop-rest : goal.invariant-loop-rest
invariant-loop-rest l = record {
  run : l.squeue.run ≡ l.fn.run;
  number : l.squeue.number ≡ l.number;
  setup : l.pace.setup ≡ l.fn.run.setup;
  at : l.pace.squeue ≡ l.number;
  few : l.count + length l.rest ≤ length l.fn.lines;
  reached : (ms : List Mark) → All IsPrinted ms → l.fn.lines ≡ flat_map mark_line ms → Reached l.fn.run.plan.now l.fn.run.calls.now l.fn.run.setup l.number ms l.rest l.count l.unfit (squeue_of l.squeue) l.pace;
}

abbrev pub decreases-loop-rest : goal.decreases-loop-rest
decreases-loop-rest l = length l.rest
