use Rattle.case_rows.proofs.Fields.{write_next}
use Rattle.case_rows.proofs.rows.numbers_in.Goals as goal

pub loop-word-preserved : goal.loop-word-preserved
loop-word-preserved c =
    write_next c.args.words.now c.loop-word.word-index _ c.loop-word.numbers.items c.push.new.self.items c.in-Ok.number c.loop-word-test.true c.loop-word.invariant c.in-Ok.ensures.value.0
    c.in_ok-push-in-Ok.ensures.items
