use Rattle.std.proofs.Common.{map, ap, ◌++◌, ◌∙◌}
use Rattle.text_digits.proofs.Joins.{in_memory}
use Rattle.conn_blocks.specs.ServedBlocks.{blocks_in}
use Rattle.report_lines.specs.ReportText.{report_text}
use Rattle.report_lines.proofs.reporting.report_of.Goals as goal

pub returns : goal.returns
returns c calls served =
    c.wrap.ensures ∙ in_memory _ _ _ (c.in_ok-push_all.ensures calls served)
    ∙ ap (λ l. l ++ report_text c.args.plan.now calls (map (λ b. b.order) (blocks_in c.args.blocks.now))) c.new-text.ensures.items
