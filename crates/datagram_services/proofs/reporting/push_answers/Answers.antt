use Rattle.std.proofs.Common.{length, refl, sym}
use Rattle.std.proofs.lemmas.Option.{slice_get_read}
use Rattle.text_digits.proofs.Joins.{more_none}
use Rattle.report_lines.proofs.Lines.{line_more}
use Rattle.datagram_services.specs.MoreText.{answer_line}
use Rattle.datagram_services.proofs.reporting.push_answers.Goals as goal

pub loop-answer-init : goal.loop-answer-init
loop-answer-init g c = sym (more_none _)

pub loop-answer-preserved : goal.loop-answer-preserved
loop-answer-preserved g c =
    let answers = c.args.answers.now in
    let i = c.loop-answer.answer-index in
    let answer = c.answer-item.result in
    line_more answer_line _ _ _ answers i answer c.loop-answer.invariant (slice_get_read answers (length answers) i answer refl c.loop-answer-test.true c.answer-item.is) c.in_ok-push_answer.ensures
