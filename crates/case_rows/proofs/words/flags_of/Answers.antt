use Rattle.std.proofs.Common.{◌≡◌, ◌∙◌, ℕ, List, false, ap, subst, sym}
use Rattle.std.specs.Prelude.{codes}
use Rattle.std.specs.Option.{ok_or}
use Rattle.std.specs.Str.{bytes_eq}
use Rattle.case_rows.specs.Words.{flags_in}
use Rattle.case_rows.specs.declared.wrong.Wrong.TheVariants.{Word}
use Rattle.case_rows.proofs.WordLemmas.{bits_sum, flags_read}
use Rattle.case_rows.proofs.words.flags_of.Goals as goal

pub returns : goal.returns
returns c =
    let w = c.as_bytes-word.result.now in
    let same : w ≡ c.args.word.now = c.as_bytes-word.ensures.value in
    let other : bytes_eq w (codes "-") ≡ false = subst (λ (x : List ℕ). bytes_eq x (codes "-") ≡ false) (sym same) (sym c.eq.ensures ∙ c.if-eq.false) in
    let sum = bits_sum w _ _ _ _ _ _ c.bit_in.ensures.value c.bit_in-2.ensures.value c.bit_in-3.ensures.value c.bit_in-4.ensures.value c.bit_in-5.ensures.value c.bit_in-6.ensures.value in
    ap (λ o. ok_or o Word) (flags_read w _ other (sym c.are_letters.ensures ∙ c.if-not-are_letters.false) sum ∙ ap flags_in same)
