use Rattle.std.proofs.Common.{arith, ◌≤◌, length}
use Rattle.text_digits.proofs.Written.{filled_more}
use Rattle.text_digits.proofs.pieces.fill.Goals as goal

pub returns-clause-front : goal.returns-clause-front
returns-clause-front c =
    let room : c.args.filled ≤ length c.args.piece.now.items = omega (arith, c.requires) in
    filled_more c.args.filled c.args.piece.now.len c.args.piece.now.items _ c.args.bytes.now _ _ _ c.deref_mut.ensures.value c.copy_from_slice.ensures.after c.requires room
