use Rattle.std.proofs.Common.{ap, map, ◌++◌, ◌∙◌}
use Rattle.conn_classifier.specs.declared.rules.Rules.{Rules}
use Rattle.squeue_state.specs.Told.{marks_of}
use Rattle.ring_threads.specs.Served.{orders_of}
use Rattle.report_lines.specs.TraceText.{trace_text}
use Rattle.text_digits.proofs.Joins.{in_memory}
use Rattle.squeue_report.proofs.tracing.report2.Goals as goal

pub returns : goal.returns
returns c served =
    let h = c.in_ok-push_report2.ensures in
    c.wrap.ensures ∙ in_memory _ _ _ h.told ∙ ap (λ l. l ++ h.text) c.new-text.ensures.items ∙ h.is served
    ∙ ap (λ (rules : Rules). trace_text c.args.plan.now c.args.calls.now c.args.setup.now rules (orders_of c.args.served.now) (map marks_of c.args.served.now.traces)) c.usual.ensures
