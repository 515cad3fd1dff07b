use Rattle.std.proofs.Common.{◌≡◌, ◌+◌, ◌≤◌, ◌++◌, length, vec_capacity}
use Rattle.std.specs.Prelude.{reverse}
use Rattle.ring_groups.proofs.groups.take_front.Given as goal

-- so many are taken, and the others are left
abbrev pub invariant-loop-n : goal.invariant-loop-n
invariant-loop-n g l =
    record {
      taken : reverse l.fn.all.items ≡ l.front.items ++ reverse l.all.items;
      many : length l.front.items ≡ l._n;
      left : length l.all.items + l._n ≡ length l.fn.all.items;
      room : l.size ≤ vec_capacity l.front;
    }
