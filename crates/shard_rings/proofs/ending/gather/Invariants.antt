use Rattle.std.proofs.Common.{◌≡◌, ◌+◌, ◌≤◌, All, length, reverse, vec_capacity}
use Rattle.squeue_serve.specs.Lending.{IsRoomFor, lent_to, tasks_in}
use Rattle.squeue_pool.proofs.Back.{SoFar}
use Rattle.shard_rings.proofs.ending.gather.Given as goal

abbrev pub invariant-squeues : goal.invariant-squeues
invariant-squeues g l =
    record {
      so_far : SoFar g.R.Resident 0 l.count l.fn.squeues.all.items (lent_to l.fn.jobs.items) l.squeues.all.items (lent_to l.jobs.items) (reverse l.left.items);
      rooms : length l.squeues.rooms.items ≡ length l.squeues.all.items;
      each_room : All (IsRoomFor (l.count + 1)) l.squeues.rooms.items;
      jobs : tasks_in l.jobs.items ≡ tasks_in l.fn.jobs.items;
      free : length l.left.items + length l.squeues.all.items ≤ vec_capacity l.left;
    }

abbrev pub decreases-squeues : goal.decreases-squeues
decreases-squeues g l = length l.squeues.all.items
