use Rattle.squeue_state.proofs.squeue.chosen_as.Given as goal

abbrev pub ghost-pick : goal.ghost-pick
ghost-pick g a = g.chosen
