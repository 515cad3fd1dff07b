use Rattle.squeue_state.proofs.squeue.picked.Given as goal

abbrev pub ghost-pick : goal.ghost-pick
ghost-pick g a = g.ending
