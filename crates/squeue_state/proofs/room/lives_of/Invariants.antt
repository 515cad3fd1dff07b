use Rattle.std.proofs.Common.{◌≡◌, ◌≤◌, length, take, vec_capacity}
use Rattle.squeue_state.specs.Behind.{ever}
use Rattle.histories.specs.Quotas.{pairs}
use Rattle.squeue_state.proofs.room.lives_of.Given as goal

abbrev pub invariant-loop-quota : goal.invariant-loop-quota
invariant-loop-quota l =
    record {
      lives : ever l.lives.items ≡ pairs (take l.quota-index l.quotas);
      many : length l.lives.items ≡ l.quota-index;
      room : length l.quotas ≤ vec_capacity l.lives;
    }
