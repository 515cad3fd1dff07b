use Rattle.std.proofs.Common.{ap, ◌++◌, ◌∙◌}
use Rattle.text_digits.proofs.Joins.{in_memory}
use Rattle.squeue_report.specs.SummaryText.{check_of}
use Rattle.squeue_report.proofs.summing.checked.Goals as goal

pub returns : goal.returns
returns c calls served =
    let h = c.in-Ok.ensures in
    c.value.ensures ∙ ap check_of (in_memory _ _ _ h.told ∙ ap (λ l. l ++ h.text) c.new-end.ensures ∙ h.is calls served)
