use Rattle.std.proofs.Common.{◌≡◌, ◌*◌, ◌++◌, drop, take}
use Rattle.hex.specs.Hex.{encode_lower}
use Rattle.text_digits.proofs.write_digits.Given as goal

-- the digits of the bytes so far are made, with those that are to be made
abbrev pub invariant-loop-at : goal.invariant-loop-at
invariant-loop-at l = take (2 * l.at) l.digits ++ encode_lower (drop l.at l.bytes) ≡ encode_lower l.bytes
