use Rattle.std.proofs.Common.{ap, ◌++◌, ◌∙◌}
use Rattle.text_digits.proofs.Joins.{in_memory}
use Rattle.datagram_services.specs.MoreText.{plan_text}
use Rattle.datagram_services.proofs.reporting.more_report.Goals as goal

pub returns : goal.returns
returns c = c.wrap.ensures ∙ in_memory _ _ _ c.in_ok-push_report.ensures ∙ ap (λ l. l ++ plan_text c.args.plan.now) c.new-text.ensures.items
