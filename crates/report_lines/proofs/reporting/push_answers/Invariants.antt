use Rattle.std.proofs.Common.{◌≡◌, take}
use Rattle.std.specs.List.{flat_map}
use Rattle.report_lines.specs.ReportText.{answer_line}
use Rattle.text_digits.specs.Told.{more}
use Rattle.report_lines.proofs.reporting.push_answers.Given as goal

abbrev pub invariant-loop-i : goal.invariant-loop-i
invariant-loop-i g l = g.T.TextEnd.told l.text ≡ more (g.T.TextEnd.told l.initial.text) (flat_map answer_line (take l.i l.block.answers))
