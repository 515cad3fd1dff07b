use Rattle.std.proofs.Common.{◌≡◌, ◌+◌, ◌≤◌, All, length, map, reverse, vec_capacity}
use Rattle.histories.specs.Quotas.{pairs}
use Rattle.squeue_serve.specs.Places.{IsNew}
use Rattle.squeue_serve.specs.Lending.{AreLent, HaveRoom, IsRoomFor, lent_to, tasks_in}
use Rattle.squeue_pool.proofs.Made.{SoFar}
use Rattle.squeue_pool.proofs.squeues.make_all.Given as goal

abbrev pub invariant-loop-resident : goal.invariant-loop-resident
invariant-loop-resident g l =
    record {
      made : SoFar g.R.Resident l.pool l.fn.residents.items (map (λ v. pairs v.items) l.quotas) (reverse l.residents.items) l.squeues.all.items;
      lent : AreLent IsNew 1 l.count l.squeues.all.items (lent_to l.jobs.items);
      rooms : length l.squeues.rooms.items ≡ length l.squeues.all.items;
      each_room : All (IsRoomFor (l.count + 1)) l.squeues.rooms.items;
      tasks : tasks_in l.jobs.items ≡ tasks_in l.fn.jobs.items;
      places : HaveRoom l.pool.pace.homes.squeues l.jobs.items;
      room : l.pool.pace.homes.squeues ≤ vec_capacity l.squeues.all;
      room_of_rooms : l.pool.pace.homes.squeues ≤ vec_capacity l.squeues.rooms;
    }

abbrev pub decreases-loop-resident : goal.decreases-loop-resident
decreases-loop-resident g l = length l.residents.items
