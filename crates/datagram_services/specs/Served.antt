-- What was served of a plan.
use Rattle.std.specs.Prelude.{◌≡◌, ℕ, Some, List, map, slice_get}
use Rattle.histories.specs.Endings.{Ending}
use Rattle.squeue_pool.specs.Keeping.{PassesKeep}
use Rattle.ring_quotas.specs.declared.setup.Setup.{Setup}
use Rattle.stream_plan.specs.Streams.{MorePlanOf}
use Rattle.datagram_services.specs.Items.{ServedOf, all_served}
use Rattle.datagram_services.specs.Fits.{Fits}

-- for each stream, by number, the answers to its datagrams and the generator's block, and the end of each squeue, by number
pub record MoreServedOf : Type 0 where
  pub streams : List ServedOf
  pub ended : List Ending

-- for each stream, by number, the answers to its datagrams and the generator's block that all its items leave, served in order, each once
abbrev pub IsMoreServed : MorePlanOf → List ServedOf → Type 0
IsMoreServed p v = v ≡ map (all_served p.file) p.streams

-- threads over squeues served the streams of the plan: the squeues ended with histories that fit the setup, in which every mark of all
-- passes is the one for what its turn found; and what was served of the streams is what all their items leave
pub record HasMoreServed (p : MorePlanOf) (setup : Setup) (v : MoreServedOf) : Type 0 where
  pub fits : Fits p setup v.ended
  pub keep : (q : ℕ) (e : Ending) → slice_get v.ended q ≡ Some e → PassesKeep setup.mode e
  pub served : IsMoreServed p v.streams
