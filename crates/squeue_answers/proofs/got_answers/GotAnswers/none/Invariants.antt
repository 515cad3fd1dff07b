use Rattle.std.proofs.Common.{[]}
use Rattle.squeue_answers.proofs.got_answers.GotAnswers.none.Given as goal

abbrev pub ghost-pick : goal.ghost-pick
ghost-pick g a = []
