use Rattle.squeue_answers.proofs.got_answers.got_as.Given as goal

abbrev pub ghost-pick : goal.ghost-pick
ghost-pick g a = g.picked
