use Rattle.std.proofs.Common.{◌≡◌, ◌+◌, ◌++◌, ◌≤◌, [], All, length, map, reverse, vec_capacity}
use Rattle.squeue_serve.specs.Lending.{tasks_in}
use Rattle.shard_rings.specs.Columns.{rings_in}
use Rattle.shard_rings.proofs.ending.take_apart.Given as goal

abbrev pub invariant-jobs : goal.invariant-jobs
invariant-jobs g l =
    record {
      rings : map (λ t. t.bringer) (rings_in (tasks_in l.jobs.items)) ++ reverse l.brought.rings.items ≡ map (λ t. t.bringer) (rings_in (tasks_in l.fn.jobs.items));
      rows : map (λ t. t.cells) (rings_in (tasks_in l.jobs.items)) ++ reverse l.brought.rows.items ≡ map (λ t. t.cells) (rings_in (tasks_in l.fn.jobs.items));
      places : All (λ j. j.places.items ≡ []) l.jobs.items;
      room : length l.brought.rings.items + length (rings_in (tasks_in l.jobs.items)) ≤ vec_capacity l.brought.rings;
      row_room : length l.brought.rows.items + length (rings_in (tasks_in l.jobs.items)) ≤ vec_capacity l.brought.rows;
    }

abbrev pub decreases-jobs : goal.decreases-jobs
decreases-jobs g l = length l.jobs.items
