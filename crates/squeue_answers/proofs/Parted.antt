-- Parts that are compared with what came, one after another.
use Rattle.std.proofs.Common.{ℕ, List, ◌++◌, ap, sym, ◌∙◌}
use Rattle.squeue_streams.proofs.Items.{same_end}
use Rattle.squeue_answers.specs.declared.rings.AnswerRings.{AnswerRings}
use Rattle.squeue_answers.specs.Parting.{IsComparedAt, MayCompareAt}
use Rattle.squeue_answers.specs.Rings.{Out, SameInputs}

module _ {A : Type 0} where
  pub inputs_on : (a b c : AnswerRings A) → SameInputs a b → SameInputs b c → SameInputs a c
  inputs_on a b c x y =
      record {
        back = λ k e at.
            let d = y.back k e at in
            let h = x.back k d.0 d.1 in
            (h.0, h.1, same_end h.0 d.0 e h.2 d.2, d.3 ∙ h.3);
        on = λ k h at.
            let d = x.on k h at in
            let e = y.on k d.0 d.1 in
            (e.0, e.1, same_end h d.0 e.0 d.2 e.2, e.3 ∙ d.3);
      }

  pub may_on : (a b : AnswerRings A) (k : ℕ) (o : Out A) → SameInputs a b → MayCompareAt a k o → MayCompareAt b k o
  may_on a b k o same may = λ d out at is.
      let h = same.back k d at in
      let w = may h.0 out h.1 is in
      (h.2.0.0 ∙ w.0, h.2.0.1 ∙ w.1, h.2.0.2 ∙ w.2, h.2.0.3 ∙ w.3)

  pub compared_back : (a b : AnswerRings A) (k : ℕ) (o : Out A) → SameInputs a b → IsComparedAt b k o → IsComparedAt a k o
  compared_back a b k o same is = λ c out at out_is.
      let h = same.on k c at in
      let left = is h.0 out h.1 out_is in
      (left.0, ap (λ (l : List A). l ++ left.0) (sym h.3) ∙ left.1)
