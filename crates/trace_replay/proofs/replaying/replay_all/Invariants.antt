use Rattle.std.proofs.Common.{◌≡◌, ◌≤◌, List, length, map, vec_capacity, vec_len}
use Rattle.std.specs.List.{flat_map}
use Rattle.perimeter_core.specs.declared.marks.Mark.{Mark}
use Rattle.report_lines.specs.TraceText.{mark_line}
use Rattle.squeue_replay.specs.Standing.{guest_of}
use Rattle.trace_lines.specs.Printed.{ArePrintedMarks}
use Rattle.trace_replay.proofs.AllGone.{AreGone}
use Rattle.trace_replay.proofs.replaying.replay_all.Given as goal

abbrev pub invariant-loop-lines : goal.invariant-loop-lines
invariant-loop-lines l = record {
  number : l.squeue ≡ l.lines-index;
  so_many : vec_len l.all ≡ l.lines-index;
  room : length l.histories ≤ vec_capacity l.all;
  many : length l.histories ≡ l.run.setup.squeues;
  gone : (marks : List (List Mark)) → ArePrintedMarks l.run.setup.squeues marks → map (λ h. h.now) l.histories ≡ map (flat_map mark_line) marks
      → AreGone l.run.plan.now l.run.calls.now l.run.setup marks l.squeue (map (λ gs. map guest_of gs.items) l.all.items) l.open l.unfit;
}
