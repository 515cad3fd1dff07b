use Rattle.std.proofs.Common.{take, ap, sym, ◌∙◌}
use Rattle.hex.specs.Hex.{encode_lower}
use Rattle.text_digits.proofs.Written.{cut_more, kept, more_place}
use Rattle.text_digits.proofs.pieces.Pieces.keep_hex.Goals as goal

pub invariant_of-self-clause-whole : goal.invariant_of-self-clause-whole
invariant_of-self-clause-whole g c = λ going.
    let p = c.args.self.now in
    kept p.said.value c.grown_hex.result.value _ _ (take p.filled p.piece.items) (encode_lower c.args.bytes.now) _ (p.whole going) c.grown_hex.ensures c.fill_hex.ensures.front

pub invariant_of-self-clause-front : goal.invariant_of-self-clause-front
invariant_of-self-clause-front g c = λ cut.
    let p = c.args.self.now in
    cut_more p.said.value.told c.grown_hex.result.value.told _ _ (encode_lower c.args.bytes.now) (p.front cut) (ap (λ s. s.told) c.grown_hex.ensures)

pub invariant_of-self-clause-place : goal.invariant_of-self-clause-place
invariant_of-self-clause-place g c =
    let p = c.args.self.now in
    p.place ∙ sym (ap (λ s. s.told.place) c.grown_hex.ensures ∙ more_place p.said.value.told (encode_lower c.args.bytes.now))
