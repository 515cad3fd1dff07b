use Rattle.std.proofs.Common.{◌∷◌, ◌++◌, [], sym, ap, refl, ◌∙◌, append_assoc, append-nil}
use Rattle.std.specs.List.{flat_map}
use Rattle.std.proofs.lemmas.List.{take_all}
use Rattle.case_rows.proofs.Lines.{line_more, no_more}
use Rattle.case_rows.proofs.comparing.expect_lines.Goals as goal

pub loop-line-init : goal.loop-line-init
loop-line-init c = refl

pub loop-line-preserved : goal.loop-line-preserved
loop-line-preserved c =
    line_more (λ line. line.now ++ 10 ∷ []) c.args.wanted.now c.loop-line.line-index _ c.args.got.now c.loop-line.rest.now c.in-Some.more.now c.loop-line-test.true
    c.loop-line.invariant (c.in-Some.ensures ∙ sym (append_assoc _ (10 ∷ []) c.in-Some.more.now))

pub returns : goal.returns
returns c =
    c.loop-line.invariant ∙ ap (λ xs. flat_map (λ line. line.now ++ 10 ∷ []) xs ++ c.loop-line.rest.now) (take_all c.loop-line.line-index c.args.wanted.now c.loop-line-test.false)
    ∙ ap (λ r. flat_map (λ line. line.now ++ 10 ∷ []) c.args.wanted.now ++ r) (no_more c.loop-line.rest.now (sym c.is_empty.ensures ∙ c.if-not-is_empty.false))
    ∙ append-nil _
