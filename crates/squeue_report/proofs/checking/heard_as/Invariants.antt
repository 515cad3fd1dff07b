use Rattle.squeue_report.proofs.checking.heard_as.Given as goal

abbrev pub ghost-pick : goal.ghost-pick
ghost-pick g a = g.picked
