use Rattle.std.proofs.Common.{sym}
use Rattle.text_digits.proofs.Joins.{more_none}
use Rattle.report_lines.specs.ReportText.{answer_line}
use Rattle.report_lines.proofs.Lines.{line_more}
use Rattle.report_lines.proofs.reporting.push_answers.Goals as goal

pub loop-i-init : goal.loop-i-init
loop-i-init g c = sym (more_none _)

pub loop-i-preserved : goal.loop-i-preserved
loop-i-preserved g c = line_more answer_line _ _ _ c.args.block.now.answers c.loop-i.i c.answer-j.result c.loop-i.invariant c.answer-j.ensures c.in_ok-push_answer.ensures
