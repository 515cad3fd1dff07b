use Rattle.std.proofs.Common.{◌≡◌, length}
use Rattle.shards.specs.Sharing.{limits_for}
use Rattle.shard_rings.specs.Knowing.{IsAt, SameEnd, came_of, sent_of}
use Rattle.shard_rings.proofs.way.wait_back.Given as goal

abbrev pub invariant-waits : goal.invariant-waits
invariant-waits g l =
    record {
      at : IsAt limits_for l.way.squeue.now l.way.ring l.cell.entered (length (sent_of l.cell)) l.pass;
      sent : sent_of l.cell ≡ sent_of l.initial.cell;
      back : came_of l.cell ≡ came_of l.initial.cell;
      end : SameEnd l.initial.cell l.cell;
    }
