use Rattle.std.proofs.Common.{◌∙◌, sym}
use Rattle.squeue_answers.proofs.Ways.{opened_before}
use Rattle.squeue_answers.proofs.rings.AnswerRings.open.Goals as goal

pub returns-then-contains_key : goal.returns-then-contains_key
returns-then-contains_key g c = opened_before c.args.self.now c.args.key (sym c.contains_key.ensures ∙ c.if-contains_key.true)
