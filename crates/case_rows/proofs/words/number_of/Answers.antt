use Rattle.std.proofs.Common.{◌∙◌}
use Rattle.case_rows.proofs.WordLemmas.{number_read}
use Rattle.case_rows.proofs.words.number_of.Goals as goal

pub returns : goal.returns
returns c = c.ok.ensures.value ∙ number_read 64 c.args.word.now c.parse.result c.parse.ensures.value.0
