-- What all passes of a squeue keep: each of their marks is the one for what its turn found.
use Rattle.std.specs.Prelude.{ℕ, ◌+◌, ◌<◌, []}
use Rattle.perimeter_core.specs.History.{worker}
use Rattle.histories.specs.Endings.{Ending}
use Rattle.histories.specs.declared.mode.Mode.{Mode}
use Rattle.squeue_rings.specs.Paced.{OfRing}
use Rattle.squeue_rings.specs.OwnMarks.{EachOwn, OfThread, OfWorker}

-- At each end of a squeue, by the marks of its history. A ring enters feeds by the way of the table, and leaves after its Ask with a block
-- that it moves. An application thread leaves only with its calls, one behind the other, or where a block is gone since it asked. The
-- worker leaves nothing of its hand, in a turn that found nothing queued
pub record PassesKeep (mode : Mode) (e : Ending) : Type 0 where
  pub rings : (r : ℕ) → r < e.setting.rings → EachOwn (OfRing mode e.setting r) r [] e.history
  pub threads : (j : ℕ) → e.setting.rings + j < worker e.setting → EachOwn (OfThread e.setting j) (e.setting.rings + j) [] e.history
  pub worker_leaves : EachOwn (OfWorker e.setting) (worker e.setting) [] e.history
