use Rattle.std.proofs.Common.{◌≡◌, ◌+◌, ◌*◌, length, ap, subst, sym, ◌∙◌}
use Rattle.hex.specs.Hex.{lower_digits}
use Rattle.hex.proofs.HexLemmas.{length-encode_with}
use Rattle.text_digits.proofs.ends.TextEnd.put_hex.Goals as goal

pub returns-clause-succeeds : goal.returns-clause-succeeds
returns-clause-succeeds g c = λ room.
    let long : length c.digits_in.result.now ≡ 2 * length c.args.bytes.now = ap (λ l. length l) c.digits_in.ensures ∙ length-encode_with lower_digits c.args.bytes.now in
    c.put.ensures.succeeds (subst (λ k. g.Self.TextEnd.has_room c.args.self.now k) (sym long) room)

pub returns-clause-left : goal.returns-clause-left
returns-clause-left g c = λ n room.
    let long : length c.digits_in.result.now ≡ 2 * length c.args.bytes.now = ap (λ l. length l) c.digits_in.ensures ∙ length-encode_with lower_digits c.args.bytes.now in
    c.put.ensures.left n (subst (λ k. g.Self.TextEnd.has_room c.args.self.now (k + n)) (sym long) room)
