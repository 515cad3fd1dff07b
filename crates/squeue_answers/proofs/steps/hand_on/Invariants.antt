use Rattle.std.proofs.Common.{◌≡◌}
use Rattle.rtrb.specs.Ring.{SameProducer, sent}
use Rattle.squeue_answers.proofs.steps.hand_on.Given as goal

abbrev pub invariant-tries : goal.invariant-tries
invariant-tries g l =
    (goal.iterator-tries g).can_next l.iterator' × (goal.iterator-tries g).is_finite l.iterator' × SameProducer l.initial.output l.output
    × (sent l.output ≡ sent l.initial.output) × (l.answer ≡ l.initial.answer)
