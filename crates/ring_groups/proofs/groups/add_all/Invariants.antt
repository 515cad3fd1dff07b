use Rattle.std.proofs.Common.{◌≡◌, ◌+◌, ◌≤◌, ◌++◌, length, vec_capacity}
use Rattle.std.specs.Prelude.{reverse}
use Rattle.ring_groups.proofs.groups.add_all.Given as goal

-- some are added, the last first, and the others are left
abbrev pub invariant-ended : goal.invariant-ended
invariant-ended g l =
    record {
      added : l.all.items ++ reverse l.ended.items ≡ l.fn.all.items ++ reverse l.fn.ended.items;
      fits : length l.all.items + length l.ended.items ≤ vec_capacity l.all;
      room : vec_capacity l.all ≡ vec_capacity l.fn.all;
    }

abbrev pub decreases-ended : goal.decreases-ended
decreases-ended g l = length l.ended.items
