-- What was served: a block for each connection of a plan.
use Rattle.std.specs.Prelude.{◌≡◌, ℕ, ◌<◌, false, Box, List, length, map, slice_get, IfSome}
use Rattle.std.specs.declared.alloc.Global.{Global}
use Rattle.conn_classifier.specs.Plan.{PlanOf}
use Rattle.conn_blocks.specs.CallLists.{CallLists}
use Rattle.conn_blocks.specs.ServeOrder.{BlockOf, serve, serving_of}

-- the blocks in these boxes
abbrev pub blocks_in : List (Box BlockOf Global) → List BlockOf
blocks_in boxes = map (λ b. b.value) boxes

-- the block is what serving its order on one thread gives, and isn't short
pub record IsServing (p : PlanOf) (calls : CallLists) (c : ℕ) (b : BlockOf) : Type 0 where
  pub whole : b.short ≡ false
  pub served : serving_of b ≡ serve p calls c b.order

-- one such block for each connection, by number
pub record AreServed (p : PlanOf) (calls : CallLists) (blocks : List BlockOf) : Type 0 where
  pub count : length blocks ≡ length p.tuples
  pub each : (c : ℕ) → c < length p.tuples → IfSome (slice_get blocks c) (IsServing p calls c)
