use Rattle.hex.specs.Hex.{encode_lower}
use Rattle.text_digits.specs.Told.{more}
use Rattle.text_digits.proofs.pieces.grown_hex.Given as goal

abbrev pub ghost-said_as : goal.ghost-said_as
ghost-said_as a = record { told = more a._said.now.value.told (encode_lower a._bytes.now); written = a._said.now.value.written }
