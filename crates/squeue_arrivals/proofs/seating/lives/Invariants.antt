use Rattle.std.proofs.Common.{◌≡◌, ◌+◌, ◌≤◌, length, replicate, vec_capacity}
use Rattle.squeue_state.specs.Behind.{ever}
use Rattle.squeue_arrivals.specs.Seating.{one_life}
use Rattle.squeue_arrivals.proofs.seating.lives.Given as goal

abbrev pub invariant-loop-k : goal.invariant-loop-k
invariant-loop-k l =
    record {
      lives : ever l.lives.items ≡ replicate l._k one_life;
      len : length l.lives.items ≡ l._k;
      room : l.rings + 1 ≤ vec_capacity l.lives;
    }
