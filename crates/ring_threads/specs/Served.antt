-- What was served, as contracts see it.
use Rattle.std.specs.Prelude.{◌≡◌, ℕ, ◌<◌, ◌==◌, if◌then◌else◌, IfSome, List, [], Some, length, map, slice_get}
use Rattle.std.specs.Option.{option_map_or}
use Rattle.perimeter_core.specs.declared.entries.Act.{Act}
use Rattle.histories.specs.Endings.{Ending}
use Rattle.squeue_state.specs.Told.{Traced, marks_of}
use Rattle.conn_classifier.specs.Plan.{PlanOf}
use Rattle.conn_blocks.specs.CallLists.{CallLists, call_at}
use Rattle.conn_blocks.specs.ServeOrder.{BlockOf}
use Rattle.ring_quotas.specs.declared.setup.Setup.{Setup}
use Rattle.squeue_pool.specs.Keeping.{PassesKeep}
use Rattle.squeue_pool.specs.Runs.{made_in_all}
use Rattle.ring_quotas.specs.Fits.{Fits}
use Rattle.conn_blocks.specs.ServedBlocks.{AreServed}

-- the block of each connection, and the end and the trace of each squeue, by number
pub record ServedOf : Type 0 where
  pub blocks : List BlockOf
  pub ended : List Ending
  pub traces : List Traced

-- by number each connection's order, as it was served
abbrev pub orders_of : ServedOf → List (List Act)
orders_of v = map (λ b. b.order) v.blocks

-- Threads over squeues served the calls and the items of the plan: the squeues ended with histories that fit the setup and give the
-- orders of the blocks, and each block is what one thread gives that serves this order. In each history every mark of all passes is
-- the one for what its turn found. Where traces were asked for, each holds the marks of its squeue's history
pub record HasServed (p : PlanOf) (calls : CallLists) (setup : Setup) (v : ServedOf) : Type 0 where
  pub fits : Fits p calls setup v.ended (orders_of v)
  pub served : AreServed p calls v.blocks
  -- all histories together made each call on a connection once, and no other
  pub called : (c j k : ℕ) → c < length p.tuples → made_in_all c j k v.ended ≡ option_map_or (λ x. if x.0 == c then 1 else 0) (call_at calls j k) 0
  pub keep : (q : ℕ) (e : Ending) → slice_get v.ended q ≡ Some e → PassesKeep setup.mode e
  pub traces : length v.traces ≡ length v.ended
  pub traced : (q : ℕ) (e : Ending) → slice_get v.ended q ≡ Some e
      → IfSome (slice_get v.traces q) (λ t. marks_of t ≡ (if setup.trace then map (λ m. m.mark) e.history else []))
