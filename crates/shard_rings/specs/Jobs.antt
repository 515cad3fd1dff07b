-- What the jobs of a run may do, and what they have done.
use Rattle.std.specs.Prelude.{◌≡◌, ℕ, ◌^◌, ◌<◌, ◌≤◌, Option, Some, List, length, slice_get, slice_index_or}
use Rattle.turn_gate.specs.declared.pass.Pass.{Pass}
use Rattle.perimeter_core.specs.History.{Element, Limits}
use Rattle.squeue_state.specs.Naming.{Named}
use Rattle.squeue_serve.specs.declared.jobs.Job.{Job}
use Rattle.shard_rings.specs.declared.pool.ShardPool.{ShardPool}
use Rattle.shard_rings.specs.declared.run.RingTask.{RingTask}
use Rattle.shard_rings.specs.declared.run.Task.{Task}
use Rattle.shard_rings.specs.declared.run.Task.TheVariants.{Ring, Work}
use Rattle.shard_rings.specs.Knowing.{Serves}
use Rattle.shard_rings.specs.Tasks.{HasBrought, HasWorkedAt, IsReady, MayWorkAt}

-- rings may enter so
pub record MayEnter (pool : ShardPool) : Type 0 where
  pub budget : 1 ≤ pool.budget
  pub span : (1 ≤ pool.span) × (pool.span ≤ 2 ^ 31)

module _ {R : Type 0} (limits : R → Limits) (squeues : List (Named R)) where
  -- each squeue serves so many rings
  abbrev pub AllServe : ℕ → Type 0
  AllServe count = (q p : ℕ) (s : Named R) → p < count → slice_get squeues q ≡ Some s → Serves limits s p

module _ {B R T : Type 0} (limits : R → Limits) (squeues : List (Named R)) where
  -- what a task needs of its places
  abbrev pub MayDo : Task B T → List (Option (Pass Element)) → Type 0
  MayDo (Ring a) places = IsReady limits squeues places a
  MayDo (Work q) places = MayWorkAt limits squeues q places

  -- what a task has become, and has done by its places: a ring has brought, and a worker has seen the end
  abbrev pub HasDone : (B → List (List T) → List (List T) → B → Type 0) → Task B T → List (Option (Pass Element)) → Task B T
      → List (Option (Pass Element)) → Type 0
  HasDone Did (Ring a) old (Ring b) new = HasBrought limits squeues Did new a b
  HasDone Did (Ring a) old (Work q) new = ⊥
  HasDone Did (Work q) old (Ring b) new = ⊥
  HasDone Did (Work q) old (Work r) new = (r ≡ q) × HasWorkedAt limits squeues q old new

  -- each job has done its task
  abbrev pub HaveDone : (B → List (List T) → List (List T) → B → Type 0) → List (Job (Task B T)) → List (Job (Task B T)) → Type 0
  HaveDone Did old new = (k : ℕ) (d : Job (Task B T)) → k < length old
      → HasDone Did (slice_index_or old k d).task (slice_index_or old k d).places.items (slice_index_or new k d).task
      (slice_index_or new k d).places.items

  -- the ring of this number has brought by the passes that it was lent, and has become this, of what it was
  pub record HasBroughtOf (Did : B → List (List T) → List (List T) → B → Type 0) (before : List (Task B T))
      (lent : ℕ → List (Option (Pass Element))) (p : ℕ) (b : RingTask B T) : Type 0 where
    pub a : RingTask B T
    pub was : slice_get before p ≡ Some (Ring a)
    pub brought : HasBrought limits squeues Did (lent p) a b
