use Rattle.text_digits.proofs.pieces.said_as.Given as goal

abbrev pub ghost-pick : goal.ghost-pick
ghost-pick g a = g.picked
