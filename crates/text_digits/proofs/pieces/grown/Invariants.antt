use Rattle.text_digits.specs.Told.{more}
use Rattle.text_digits.proofs.pieces.grown.Given as goal

abbrev pub ghost-said_as : goal.ghost-said_as
ghost-said_as a = record { told = more a._said.now.value.told a._bytes.now; written = a._said.now.value.written }
