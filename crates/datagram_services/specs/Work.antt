-- What the streams of a plan are as work for squeues and rings.
use Rattle.std.specs.Prelude.{◌≡◌, ℕ, Some, [], length, slice_get}
use Rattle.placed_parts.specs.Standing.{first_here}
use Rattle.squeue_pool.specs.Keys.{key_work}
use Rattle.squeue_pool.specs.Works.{WorkOf}
use Rattle.stream_plan.specs.Streams.{MorePlanOf}
use Rattle.datagram_services.specs.declared.blocks.StreamBlocks.{StreamBlocks}
use Rattle.datagram_services.specs.Standing.{Stands, calls_of, origin_of, size_of}
use Rattle.datagram_services.specs.Fits.{counts_of}

-- the first resident of squeue q: the streams are here whose number leaves q, divided by the squeues
pub record IsFirst (p : MorePlanOf) (squeues q : ℕ) (r : StreamBlocks) : Type 0 where
  pub size : size_of r ≡ length p.streams
  pub origin : origin_of r ≡ p
  pub calls : calls_of r ≡ []
  pub stands : Stands r (first_here (length p.streams) q squeues)

-- such a resident for each squeue, and the items of the streams by key
pub record IsWorkFor (p : MorePlanOf) (squeues rings : ℕ) (w : WorkOf StreamBlocks) : Type 0 where
  pub count : length w.residents ≡ squeues
  pub first : (q : ℕ) (r : StreamBlocks) → slice_get w.residents q ≡ Some r → IsFirst p squeues q r
  pub by_key : w ≡ key_work squeues rings (counts_of p) w.residents
