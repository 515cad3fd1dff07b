use Rattle.std.proofs.Common.{◌≡◌, ◌+◌, ◌≤◌, All, length, reverse, vec_capacity}
use Rattle.squeue_serve.specs.Places.{IsNew}
use Rattle.squeue_serve.specs.Lending.{AreLent, HaveRoom, IsRoomFor, lent_to, tasks_in}
use Rattle.shards.specs.Sharing.{limits_for}
use Rattle.shard_rings.proofs.Made.{SoFar}
use Rattle.shard_rings.proofs.making.make_all.Given as goal

abbrev pub invariant-residents : goal.invariant-residents
invariant-residents g l =
    record {
      made : SoFar limits_for l.rings l.fn.residents.items (reverse l.residents.items) l.squeues.all.items;
      lent : AreLent IsNew 0 l.rings l.squeues.all.items (lent_to l.jobs.items);
      rooms : length l.squeues.rooms.items ≡ length l.squeues.all.items;
      each_room : All (IsRoomFor (l.rings + 1)) l.squeues.rooms.items;
      tasks : tasks_in l.jobs.items ≡ tasks_in l.fn.jobs.items;
      places : HaveRoom (length l.fn.residents.items) l.jobs.items;
      room : length l.fn.residents.items ≤ vec_capacity l.squeues.all;
      room_of_rooms : length l.fn.residents.items ≤ vec_capacity l.squeues.rooms;
    }

abbrev pub decreases-residents : goal.decreases-residents
decreases-residents g l = length l.residents.items
