use Rattle.std.proofs.Common.{ap, ◌++◌, ◌∙◌}
use Rattle.text_digits.proofs.Joins.{in_memory}
use Rattle.squeue_report.proofs.reporting.report.Goals as goal

pub returns : goal.returns
returns c calls served =
    let h = c.in_ok-push_report.ensures in
    c.wrap.ensures ∙ in_memory _ _ _ h.told ∙ ap (λ l. l ++ h.text) c.new-text.ensures.items ∙ h.is calls served
