use Rattle.std.proofs.Common.{◌≤◌, ℕ, ap, subst, ◌∙◌}
use Rattle.conn_classifier.specs.Plan.{plan_by}
use Rattle.squeue_run.proofs.Named.{calls_there}
use Rattle.squeue_run.proofs.Reports.{all_there, is_report, marks_are}
use Rattle.squeue_run.specs.Asked.{asked_by_words}
use Rattle.squeue_run.specs.Limits.{most_marks}
use Rattle.squeue_run.proofs.run.replayed.Goals as goal

pub long_trace-requires-clause-calls : goal.long_trace-requires-clause-calls
long_trace-requires-clause-calls g c = calls_there _ _ _ _ _ c.conns-conns.ensures.value c.deref.ensures.value c.requires.calls c.in_default.ensures

pub serve-requires-clause-calls : goal.serve-requires-clause-calls
serve-requires-clause-calls g c κs within = calls_there _ _ _ _ _ c.conns-conns.ensures.value c.deref.ensures.value c.requires.calls c.in_default.ensures

pub returns-clause-ends : goal.returns-clause-ends
returns-clause-ends g c =
    let a = asked_by_words c.args.words.now in
    let IsWithin : ℕ → Type 0 = λ n. n ≤ most_marks in
    let w = c.in_ok-wrote.ensures.ends in
    let planned = c.in_ok-plan.ensures ∙ ap (plan_by c.args.capture.now) c.rules.ensures in
    record {
      text = w.text;
      is = (
        record {
          there = all_there c.args.capture.now a c.in_ok-plan.plan c.conns-conns.result c.deref.result.now c.args.words.now.named.items
              planned c.conns-conns.ensures.value c.deref.ensures.value c.in_default.ensures;
          marks = λ asked. subst IsWithin (marks_are c.args.capture.now a c.in_ok-plan.plan c.args.words.now.calls planned c.requires.calls) (c.in_default-long_trace.ensures asked);
        },
        is_report c.args.capture.now a c.in_ok-plan.plan c.args.words.now.calls c.in_ok-served.served w.text
            planned c.requires.calls c.in_ok-served.ensures w.is,
      );
      wrote = w.wrote;
    }
