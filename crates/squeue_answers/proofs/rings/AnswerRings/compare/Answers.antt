use Rattle.squeue_answers.proofs.Ways.{none_popped}
use Rattle.squeue_answers.proofs.rings.AnswerRings.compare.Goals as goal

pub returns-clause-same : goal.returns-clause-same
returns-clause-same g c = none_popped c.args.self.now _ c.args.key c.compare_at.ensures.others c.compare_at.ensures.looked
