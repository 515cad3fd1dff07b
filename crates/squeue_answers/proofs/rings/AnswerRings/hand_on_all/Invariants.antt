use Rattle.squeue_answers.specs.Rings.{HasHandedOn}
use Rattle.squeue_answers.proofs.rings.AnswerRings.hand_on_all.Given as goal

abbrev pub invariant-loop-n : goal.invariant-loop-n
invariant-loop-n g l = HasHandedOn (g.K.Sink.got l.initial.sink) (g.K.Sink.got l.sink) l.initial.self l.self
