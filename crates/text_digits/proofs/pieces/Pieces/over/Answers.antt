use Rattle.std.proofs.Common.{ap, sym, ◌∙◌}
use Rattle.text_digits.proofs.Written.{nothing}
use Rattle.text_digits.proofs.pieces.Pieces.over.Goals as goal

pub invariant_of-result-clause-place : goal.invariant_of-result-clause-place
invariant_of-result-clause-place g c = sym (ap (λ s. s.told.place) (c.pick.ensures ∙ c.requires.1))

pub invariant_of-result-clause-whole : goal.invariant_of-result-clause-whole
invariant_of-result-clause-whole g c = λ _. nothing c.pick.result.value _ _ _ (c.pick.ensures ∙ c.requires.1)

pub invariant_of-result-clause-front : goal.invariant_of-result-clause-front
invariant_of-result-clause-front g c = λ cut. absurd (let no : ⊥ = cc in no)
