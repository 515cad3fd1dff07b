use Rattle.case_rows.proofs.SpellingLemmas.{once_more}
use Rattle.case_rows.proofs.bytes.add_often.Goals as goal

pub loop-preserved : goal.loop-preserved
loop-preserved c = once_more c.loop.counter c.args.out.now.items c.args.bytes.now c.loop.out.items c.extend_from_slice.new.self.items c.loop.invariant c.in_ok-extend_from_slice.ensures.items
