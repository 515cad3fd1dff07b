use Rattle.std.proofs.Common.{◌≡◌, ◌+◌, ◌/◌, ◌≤◌, ◌++◌, length, min, vec_capacity}
use Rattle.std.specs.Prelude.{All, reverse}
use Rattle.ring_groups.specs.Groups.{IsEven, MayServe, all_in}
use Rattle.ring_groups.proofs.Shares.{AreEvenly}
use Rattle.ring_groups.proofs.groups.deal.Given as goal

-- some are dealt, and the others are left
abbrev pub invariant-groups : goal.invariant-groups
invariant-groups g l =
    record {
      dealt : l.fn.all.items ≡ all_in l.groups.items ++ reverse l.all.items;
      may : All MayServe l.groups.items;
      few : length l.all.items ≤ 63;
      left : 1 ≤ l.fn.squeues → 1 ≤ length l.all.items → 1 ≤ l.left;
      many : 1 ≤ l.fn.squeues → length l.groups.items + min l.left (length l.all.items) ≡ min l.fn.squeues (length l.fn.all.items);
      even : 1 ≤ l.fn.squeues → All (IsEven (length l.fn.all.items / min l.fn.squeues (length l.fn.all.items))) l.groups.items
          × AreEvenly (length l.fn.all.items / min l.fn.squeues (length l.fn.all.items)) (length l.all.items) (min l.left (length l.all.items));
      room : length l.groups.items + length l.all.items ≤ vec_capacity l.groups;
    }

abbrev pub decreases-groups : goal.decreases-groups
decreases-groups g l = length l.all.items
