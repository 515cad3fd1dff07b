use Rattle.std.proofs.Common.{rules, ◌≡◌, ◌∙◌, ℕ, List, ap, map, false, true}
use Rattle.conn_classifier.specs.declared.rules.Rules.{Rules}
use Rattle.squeue_state.specs.Told.{marks_of}
use Rattle.ring_threads.specs.Served.{orders_of}
use Rattle.report_lines.specs.TraceText.{trace_text}
use Rattle.squeue_run.proofs.Outputs.{with_marks, without_marks, written_as}
use Rattle.squeue_run.proofs.run.reported.Goals as goal

pub returns-then-not-words-clause-ends : goal.returns-then-not-words-clause-ends
returns-then-not-words-clause-ends g c =
    let plain : c.args.words.now.setup.trace ≡ false = search rules in
    written_as _ _ _ _ (λ t h served. without_marks _ t _ _ plain (h c.args.words.now.calls served)) c.write_report.ensures

pub returns-clause-ends : goal.returns-clause-ends
returns-clause-ends g c =
    let marked : c.args.words.now.setup.trace ≡ true = search rules in
    let Told : Rules → List ℕ = λ by. trace_text c.args.plan.now c.args.words.now.calls c.args.words.now.setup by (orders_of c.args.served.now) (map marks_of c.args.served.now.traces) in
    written_as _ _ _ _ (λ t h served. with_marks _ t _ _ marked (h served ∙ ap Told c.rules.ensures)) c.write_report2.ensures
