use Rattle.std.proofs.Common.{take, subst, sym, ◌∙◌}
use Rattle.text_digits.specs.Pieces.{IsWhole}
use Rattle.text_digits.proofs.Written.{cut_off, flushed, on_err, on_ok}
use Rattle.text_digits.proofs.pieces.Pieces.flush.Goals as goal

pub invariant_of-self-2-clause-whole : goal.invariant_of-self-2-clause-whole
invariant_of-self-2-clause-whole g c = λ going.
    let p = c.args.self.now in
    let ok = sym c.is_err-self.ensures.value ∙ going in
    flushed p.said.value c.written.result.value _ _ _ _ (take p.filled c.deref.result.now)
    (subst (λ l. IsWhole p.said.value (g.K.Sink.contents p.sink.now) (g.K.Sink.write_faults p.sink.now) (take p.filled l)) (sym c.deref.ensures.value) (p.whole c.if-self.false))
    (on_ok c.put.result _ ok c.put.ensures.ok) (on_ok c.put.result _ ok c.put.ensures.kept) c.written.ensures

pub invariant_of-self-2-clause-front : goal.invariant_of-self-2-clause-front
invariant_of-self-2-clause-front g c = λ cut.
    let p = c.args.self.now in
    let err = sym c.is_err-self.ensures.value ∙ cut in
    cut_off p.said.value c.written.result.value _ _ _ _ (take p.filled c.deref.result.now)
    (subst (λ l. IsWhole p.said.value (g.K.Sink.contents p.sink.now) (g.K.Sink.write_faults p.sink.now) (take p.filled l)) (sym c.deref.ensures.value) (p.whole c.if-self.false))
    (on_err c.put.result _ err c.put.ensures.failed) (on_err c.put.result _ err c.put.ensures.rose) c.written.ensures
