use Rattle.std.proofs.Common.{◌≡◌, ◌≤◌, [], length, vec_capacity}
use Rattle.std.specs.Prelude.{All}
use Rattle.squeue_answers.proofs.serving.rooms_of.Given as goal

abbrev pub invariant-loop-k : goal.invariant-loop-k
invariant-loop-k g l =
    (length l.rooms.items ≡ l._k) × (vec_capacity l.rooms ≡ l.sources) × All (λ r. (r.items ≡ []) × (l.places ≤ vec_capacity r)) l.rooms.items
