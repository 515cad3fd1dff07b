use Rattle.std.proofs.Common.{◌∙◌, ◌++◌, ap, append_assoc}
use Rattle.case_rows.proofs.SpellingLemmas.{word_next}
use Rattle.case_rows.proofs.bytes.add_words.Goals as goal

pub loop-word-preserved : goal.loop-word-preserved
loop-word-preserved c =
    let had = c.loop-word.invariant in
    let more = c.in_ok-add_word.ensures in (
      had.0 ++ more.0,
      word_next c.args.words.now c.loop-word.word-index _ had.0 more.0 c.loop-word-test.true had.1 more.1,
      more.2 ∙ (ap (λ l. l ++ more.0) had.2 ∙ append_assoc c.args.out.now.items had.0 more.0),
    )
