use Rattle.std.proofs.Common.{◌≡◌, List, map, ◌++◌, subst, sym}
use Rattle.perimeter_core.specs.declared.marks.Mark.{Mark}
use Rattle.squeue_state.specs.Told.{marks_of}
use Rattle.conn_classifier.specs.Plan.{plan_of}
use Rattle.conn_classifier.specs.Rules.{usual}
use Rattle.ring_threads.specs.Served.{orders_of}
use Rattle.report_lines.specs.TraceText.{trace_text}
use Rattle.squeue_run.specs.Output.{histories_of}
use Rattle.trace_replay.specs.Replays.{Replays}
use Rattle.replay_law.proofs.Served.{marks_are}
use Rattle.replay_law.proofs.SuchRuns.{served_replays}
use Rattle.replay_law.proofs.laws.what_was_served_replays.Goals as goal

pub returns : goal.returns
returns c file setup verify calls v input said printed most served =
    let same : map marks_of v.traces ≡ histories_of v = marks_are setup.trace v.traces v.ended said.traced served.traces served.traced in
    subst (λ (ms : List (List Mark)). Replays (trace_text (plan_of file verify) calls setup (usual verify) (orders_of v) ms ++ file.bytes)) (sym same) (served_replays file verify setup calls v input said printed most served)
