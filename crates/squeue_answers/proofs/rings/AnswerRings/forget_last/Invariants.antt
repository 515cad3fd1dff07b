use Rattle.std.proofs.Common.{◌≡◌}
use Rattle.squeue_answers.specs.Rings.{waiting_in}
use Rattle.squeue_answers.proofs.rings.AnswerRings.forget_last.Given as goal

abbrev pub invariant-turns : goal.invariant-turns
invariant-turns g l =
    (goal.iterator-turns g).can_next l.iterator' × (goal.iterator-turns g).is_finite l.iterator' × (l.self.inputs ≡ l.initial.self.inputs)
    × (waiting_in l.self ≡ waiting_in l.initial.self)
