-- Which pools serve.
use Rattle.std.specs.Prelude.{◌≤◌, ◌^◌}
use Rattle.squeue_arrivals.specs.declared.pool.ArrivalPool.{ArrivalPool}

-- there are squeues, which have room for an entry and not for too many, and an owner processes something
pub record IsInRange (pool : ArrivalPool) : Type 0 where
  pub squeues : 1 ≤ pool.squeues
  pub some_room : 1 ≤ pool.room
  pub room : pool.room ≤ 2 ^ 30
  pub budget : 1 ≤ pool.budget
