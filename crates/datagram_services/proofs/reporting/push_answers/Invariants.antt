use Rattle.std.proofs.Common.{◌≡◌, take}
use Rattle.std.specs.List.{flat_map}
use Rattle.text_digits.specs.Told.{more}
use Rattle.datagram_services.specs.MoreText.{answer_line}
use Rattle.datagram_services.proofs.reporting.push_answers.Given as goal

abbrev pub invariant-loop-answer : goal.invariant-loop-answer
invariant-loop-answer g l = g.T.TextEnd.told l.text ≡ more (g.T.TextEnd.told l.initial.text) (flat_map answer_line (take l.answer-index l.answers))
