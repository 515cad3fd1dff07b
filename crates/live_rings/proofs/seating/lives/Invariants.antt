use Rattle.std.proofs.Common.{◌≡◌, ◌≤◌, replicate, vec_capacity}
use Rattle.squeue_state.specs.Behind.{ever}
use Rattle.live_rings.specs.Seating.{one_life}
use Rattle.live_rings.proofs.seating.lives.Given as goal

abbrev pub invariant-loop-k : goal.invariant-loop-k
invariant-loop-k l =
    record {
      lives : ever l.lives.items ≡ replicate l._k one_life;
      room : l.rings ≤ vec_capacity l.lives;
    }
