use Rattle.squeue_answers.specs.Rings.{HasHandedOn}
use Rattle.squeue_answers.proofs.rings.AnswerRings.hand_on_rest.Given as goal

abbrev pub invariant-rest : goal.invariant-rest
invariant-rest g l =
    (goal.iterator-rest g).can_next l.iterator' × (goal.iterator-rest g).is_finite l.iterator'
    × HasHandedOn (g.K.Sink.got l.initial.sink) (g.K.Sink.got l.sink) l.initial.self l.self
