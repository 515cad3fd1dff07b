use Rattle.std.proofs.Common.{◌≡◌, ◌∙◌, ℕ, true, Bool, Option, Some, List, ◌++◌, if◌then◌else◌, ap, subst, sym}
use Rattle.sq_base.specs.Ends.{End}
use Rattle.sq_base.specs.declared.kinds.Status.TheVariants as status
use Rattle.conn_classifier.specs.Plan.{plan_of}
use Rattle.ring_threads.specs.Served.{ServedOf, orders_of}
use Rattle.report_lines.specs.ReportText.{report_text}
use Rattle.report_lines.specs.TraceText.{trace_text}
use Rattle.squeue_run.specs.Words.{Text}
use Rattle.squeue_run.specs.Asked.{Asked, asked}
use Rattle.squeue_run.specs.CallWords.{lists_of}
use Rattle.squeue_run.specs.Output.{histories_of}
use Rattle.squeue_run.specs.Ran.{HasRan, RanBy, RanRead, conns_of}
use Rattle.trace_replay.specs.Replays.{Replays}
use Rattle.replay_law.specs.Wrote.{WroteWhatReplays}
use Rattle.replay_law.proofs.SuchCalls.{calls_said, setup_said, traced_reads}
use Rattle.replay_law.proofs.SuchRuns.{served_replays}
use Rattle.replay_law.proofs.laws.a_traced_run_replays.Goals as goal
use Rattle.squeue_run.specs.Asked.{rules_of}

wrote : (words : List Text) (a : Asked) (source out err : End) (back : Option ServedOf) → asked words ≡ Some a → a.setup.trace ≡ true → RanRead a source out err back status.Ok → WroteWhatReplays source out
wrote words a source out err back accepted traced ran =
    let file = ran.0 in
    let gets = ran.3 in
    let v = gets.served in
    let report = gets.output in
    let p = plan_of file a.verify in
    let calls = lists_of a.calls in
    let says : gets.text ≡ trace_text p calls a.setup (rules_of a) (orders_of v) (histories_of v) =
    report.says ∙ ap (λ (b : Bool). if b then trace_text p calls a.setup (rules_of a) (orders_of v) (histories_of v) else report_text p calls (orders_of v)) traced in
    let replays =
    served_replays file a.verify a.setup calls v ran.1.capture (setup_said words a accepted traced) (calls_said words a (conns_of file a) accepted ran.2.there) (ran.2.marks traced) report.served in
    record {
      read = file.bytes;
      written = gets.text;
      whole = ran.1.read;
      appended = gets.written;
      replays = subst (λ (text : List ℕ). Replays (text ++ file.bytes)) (sym says) replays;
    }

pub returns : goal.returns
returns c words a source out err back accepted traced ran =
    let by = subst (λ (w : Option Asked). HasRan w source out err back status.Ok) accepted ran in
    let read = subst (λ (number : Option ℕ). RanBy number a source out err back status.Ok) (traced_reads words a accepted traced) by.ran in
    wrote words a source out err back accepted traced read.1
