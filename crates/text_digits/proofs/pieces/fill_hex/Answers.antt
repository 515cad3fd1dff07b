use Rattle.std.proofs.Common.{arith, ◌*◌, ◌≤◌, length}
use Rattle.hex.specs.Hex.{encode_lower, lower_digits}
use Rattle.hex.proofs.HexLemmas.{length-encode_with}
use Rattle.text_digits.proofs.Written.{filled_by}
use Rattle.text_digits.proofs.pieces.fill_hex.Goals as goal

pub returns-clause-front : goal.returns-clause-front
returns-clause-front c =
    let bytes = c.args.bytes.now in
    let room : c.args.filled ≤ length c.args.piece.now.items = omega (arith, c.requires) in
    filled_by c.args.filled (2 * length bytes) c.args.piece.now.len c.args.piece.now.items _ (encode_lower bytes) _ _ _
    (length-encode_with lower_digits bytes) c.deref_mut.ensures.value c.write_digits.ensures c.requires room
