use Rattle.std.proofs.Common.{◌≡◌, ◌*◌, length}
use Rattle.hex.specs.Hex.{encode_lower}
use Rattle.text_digits.specs.Told.{more}
use Rattle.text_digits.proofs.push_hex.Given as goal

-- what is told, with what is to be told, for which there is room
abbrev pub invariant-loop-rest : goal.invariant-loop-rest
invariant-loop-rest g l =
    record {
      text : more (g.T.TextEnd.told l.text) (encode_lower l.rest) ≡ more (g.T.TextEnd.told l.fn.text) (encode_lower l.bytes);
      room : g.T.TextEnd.has_room l.text (2 * length l.rest);
    }

abbrev pub decreases-loop-rest : goal.decreases-loop-rest
decreases-loop-rest g l = length l.rest
