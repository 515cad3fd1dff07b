use Rattle.std.proofs.Common.{◌≡◌, map, length}
use Rattle.report_lines.specs.ReportText.{entries_of, entry_field, line_end}
use Rattle.text_digits.specs.Told.{more}
use Rattle.report_lines.proofs.reporting.push_order.Given as goal

-- what is written, with what is to be written
abbrev pub invariant-loop-rest : goal.invariant-loop-rest
invariant-loop-rest g l =
    more (g.T.TextEnd.told l.text) (line_end (map entry_field (entries_of l.rest))) ≡ more (g.T.TextEnd.told l.initial.text) (line_end (map entry_field (entries_of l.order)))

abbrev pub decreases-loop-rest : goal.decreases-loop-rest
decreases-loop-rest g l = length l.rest
