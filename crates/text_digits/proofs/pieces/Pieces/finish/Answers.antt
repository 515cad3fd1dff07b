use Rattle.text_digits.proofs.Written.{cut_at_end}
use Rattle.text_digits.proofs.pieces.Pieces.finish.Goals as goal

pub returns-then-last-clause-failed : goal.returns-then-last-clause-failed
returns-then-last-clause-failed g c = cut_at_end c.args.self.said.value.told c.flush.new.self.said.value.told _ _ c.flush.ensures.told (c.flush.new.self.front c.if-last.true)
