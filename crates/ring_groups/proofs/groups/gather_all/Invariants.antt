use Rattle.std.proofs.Common.{◌≡◌, ◌+◌, ◌≤◌, ◌++◌, List, length, vec_capacity}
use Rattle.std.specs.Prelude.{reverse}
use Rattle.ring_groups.specs.declared.groups.Group.{Group}
use Rattle.ring_groups.specs.Groups.{HaveEnded, many_in}
use Rattle.ring_groups.proofs.groups.gather_all.Given as goal

-- the groups from some number on are taken apart, and this is left of them
abbrev pub invariant-groups : goal.invariant-groups
invariant-groups g l = record {
  gone : List (Group g.row.B.Denot g.row.A.Denot g.row.Z.Denot);
  all : l.fn.groups.items ≡ l.groups.items ++ gone;
  ended : HaveEnded gone (reverse l.all.items) (reverse l.ends.items);
  room : length l.all.items + many_in l.groups.items ≤ vec_capacity l.all;
  end_room : length l.ends.items + length l.groups.items ≤ vec_capacity l.ends;
}

abbrev pub decreases-groups : goal.decreases-groups
decreases-groups g l = length l.groups.items
