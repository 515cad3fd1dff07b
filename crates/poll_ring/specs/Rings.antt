-- What contracts see of a ring and of its two ends. Which ring it is is the identity of the table below its queue.
use Rattle.std.specs.Prelude.{ℕ}
use Rattle.atomic_table.specs.Seated.{TableId}

-- a ring, and how many numbers it gives
pub record RingSize : Type 0 where
  pub ring : TableId
  pub capacity : ℕ

-- whose end it is, and how many numbers were put by it
pub record FeedCount : Type 0 where
  pub ring : TableId
  pub put : ℕ

-- whose end it is, and how many numbers were popped by it
pub record PollCount : Type 0 where
  pub ring : TableId
  pub popped : ℕ
