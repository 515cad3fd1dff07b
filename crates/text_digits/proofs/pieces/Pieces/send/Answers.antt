use Rattle.std.proofs.Common.{◌≡◌, [], take, refl, ap, subst, sym, ◌∙◌}
use Rattle.text_digits.specs.Pieces.{IsWhole}
use Rattle.text_digits.proofs.Written.{cut_more, cut_off, flushed, kept, more_place, on_err, on_ok}
use Rattle.text_digits.proofs.pieces.Pieces.send.Goals as goal

pub invariant_of-self-clause-place : goal.invariant_of-self-clause-place
invariant_of-self-clause-place g c =
    let p = c.args.self.now in
    p.place ∙ sym (ap (λ s. s.told.place) c.grown.ensures ∙ more_place p.said.value.told c.args.bytes.now)

pub invariant_of-self-clause-whole : goal.invariant_of-self-clause-whole
invariant_of-self-clause-whole g c = λ going. absurd (let no : ⊥ = cc in no)

pub invariant_of-self-clause-front : goal.invariant_of-self-clause-front
invariant_of-self-clause-front g c = λ cut.
    let p = c.args.self.now in
    cut_more p.said.value.told c.grown.result.value.told _ _ c.args.bytes.now (p.front cut) (ap (λ s. s.told) c.grown.ensures)

pub invariant_of-self-2-clause-place : goal.invariant_of-self-2-clause-place
invariant_of-self-2-clause-place g c =
    let p = c.args.self.now in
    p.place ∙ sym (ap (λ s. s.told.place) c.written.ensures ∙ ap (λ s. s.told.place) c.grown-2.ensures ∙ more_place p.said.value.told c.args.bytes.now)

pub invariant_of-self-2-clause-whole : goal.invariant_of-self-2-clause-whole
invariant_of-self-2-clause-whole g c = λ going.
    let p = c.args.self.now in
    let none : take p.filled p.piece.items ≡ [] = ap (λ n. take n p.piece.items) c.requires in
    let ok = sym c.is_err-self.ensures.value ∙ going in
    let all = kept p.said.value c.grown-2.result.value _ _ [] c.args.bytes.now c.args.bytes.now
    (subst (λ l. IsWhole p.said.value (g.K.Sink.contents p.sink.now) (g.K.Sink.write_faults p.sink.now) l) none (p.whole c.if-self.false)) c.grown-2.ensures refl in
    subst (λ l. IsWhole c.written.result.value (g.K.Sink.contents c.put.new.sink) (g.K.Sink.write_faults c.put.new.sink) l) (sym none)
    (flushed c.grown-2.result.value c.written.result.value _ _ _ _ c.args.bytes.now all (on_ok c.put.result _ ok c.put.ensures.ok) (on_ok c.put.result _ ok c.put.ensures.kept) c.written.ensures)

pub invariant_of-self-2-clause-front : goal.invariant_of-self-2-clause-front
invariant_of-self-2-clause-front g c = λ cut.
    let p = c.args.self.now in
    let none : take p.filled p.piece.items ≡ [] = ap (λ n. take n p.piece.items) c.requires in
    let err = sym c.is_err-self.ensures.value ∙ cut in
    let all = kept p.said.value c.grown-2.result.value _ _ [] c.args.bytes.now c.args.bytes.now
    (subst (λ l. IsWhole p.said.value (g.K.Sink.contents p.sink.now) (g.K.Sink.write_faults p.sink.now) l) none (p.whole c.if-self.false)) c.grown-2.ensures refl in
    cut_off c.grown-2.result.value c.written.result.value _ _ _ _ c.args.bytes.now all (on_err c.put.result _ err c.put.ensures.failed) (on_err c.put.result _ err c.put.ensures.rose) c.written.ensures
