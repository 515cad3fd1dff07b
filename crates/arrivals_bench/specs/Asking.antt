-- Which numbers words may ask for.
use Rattle.std.specs.Prelude.{◌≤◌, ◌^◌}
use Rattle.arrivals_bench.specs.declared.words.BenchWords.{BenchWords}

-- there are sources of items, keys, squeues and room, and no more than a pool takes
pub record IsInRange (asked : BenchWords) : Type 0 where
  pub producers : 1 ≤ asked.producers
  pub few : asked.producers ≤ 63
  pub keys : 1 ≤ asked.keys
  pub squeues : 1 ≤ asked.squeues
  pub some_room : 1 ≤ asked.room
  pub room : asked.room ≤ 2 ^ 30
