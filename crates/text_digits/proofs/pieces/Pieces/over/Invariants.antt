use Rattle.text_digits.proofs.pieces.Pieces.over.Given as goal

abbrev pub ghost-pick : goal.ghost-pick
ghost-pick g a = g.start
