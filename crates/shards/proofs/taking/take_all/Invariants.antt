use Rattle.std.proofs.Common.{◌≡◌, ◌+◌, ◌++◌, length}
use mathlib.Core.List.{IsPrefix}
use Rattle.rtrb.specs.Ring.{known_items, received, sent}
use Rattle.shards.specs.Merging.{Merges, SameLane}
use Rattle.shards.proofs.taking.take_all.Given as goal

-- those that were popped, and those that are left, are all
abbrev pub invariant-loop-k : goal.invariant-loop-k
invariant-loop-k g l =
    record {
      left : l._k + length (known_items l.end.input) ≡ l.many;
      all : received l.end.input ++ known_items l.end.input ≡ sent l.fn.ring.output;
      front : IsPrefix (received l.fn.ring.back) (sent l.end.back);
      same : SameLane l.fn.end l.end;
      merges : Merges g.X.Shared.is_made l.p l.fn.end l.end l.fn.shared l.shared;
      origin : g.X.Shared.origin l.shared ≡ g.X.Shared.origin l.fn.shared;
    }
