use Rattle.std.proofs.Common.{◌≡◌, ◌+◌, ◌≤◌, ◌++◌, length, map, vec_capacity}
use Rattle.std.specs.Prelude.{reverse}
use Rattle.squeue_arrivals.proofs.arriving.ends_of.Given as goal

abbrev pub invariant-ends : goal.invariant-ends
invariant-ends g l =
    record {
      ends : map (λ e. e.end) l.fn.watched.items ≡ map (λ e. e.end) l.watched.items ++ reverse l.ends.items;
      room : length l.ends.items + length l.watched.items ≤ vec_capacity l.ends;
    }

abbrev pub decreases-ends : goal.decreases-ends
decreases-ends g l = length l.watched.items
