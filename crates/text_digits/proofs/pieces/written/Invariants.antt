use Rattle.text_digits.proofs.pieces.written.Given as goal

abbrev pub ghost-said_as : goal.ghost-said_as
ghost-said_as a = record { told = a._said.now.value.told; written = a._said.now.value.told.text }
