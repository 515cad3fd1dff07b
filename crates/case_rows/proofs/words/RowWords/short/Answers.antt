use Rattle.std.proofs.Common.{◌∙◌, ℕ, Option, ap}
use Rattle.std.specs.Option.{ok_or}
use Rattle.case_rows.specs.Words.{number_in}
use Rattle.case_rows.specs.declared.wrong.Wrong.TheVariants.{Word}
use Rattle.case_rows.proofs.WordLemmas.{number_read}
use Rattle.case_rows.proofs.words.RowWords.short.Goals as goal

pub returns-clause-number : goal.returns-clause-number
returns-clause-number c =
    c.ok_or.ensures.value ∙ ap (λ (o : Option ℕ). ok_or o Word) (c.ok.ensures.value ∙ (number_read 16 c.word.result.now c.parse.result c.parse.ensures.value.0 ∙ ap (number_in 16) c.word.ensures.word))
