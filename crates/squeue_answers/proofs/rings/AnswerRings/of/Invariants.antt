use Rattle.std.proofs.Common.{◌≡◌, length, vec_capacity}
use Rattle.squeue_answers.proofs.rings.AnswerRings.of.Given as goal

abbrev pub invariant-loop-k : goal.invariant-loop-k
invariant-loop-k g l = (length l.left.items ≡ l._k) × (vec_capacity l.left ≡ l.keys)
