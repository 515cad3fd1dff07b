-- What a run that has begun gives its parts.
use Rattle.std.proofs.Common.{◌≡◌, ℕ, zero, suc, ◌+◌, ◌*◌, ◌≤◌, All, Option, List, Vec, Global, length, ap, sym, ◌∙◌, subst, arith}
use Rattle.std.proofs.lemmas.List.{length-map}
use Rattle.turn_gate.specs.declared.pass.Pass.{Pass}
use Rattle.perimeter_core.specs.History.{Element, Limits}
use Rattle.placed_parts.specs.Standing.{all_new}
use Rattle.squeue_state.specs.Naming.{Named}
use Rattle.squeue_serve.specs.declared.jobs.Job.{Job}
use Rattle.squeue_serve.specs.Lending.{tasks_in}
use Rattle.shards.specs.declared.lanes.SqueueEnd.{SqueueEnd}
use Rattle.shards.specs.declared.shared.Shared.{Ghosts}
use Rattle.shards.specs.declared.shard.Shard.{Shard}
use Rattle.shards.specs.Numbering.{ring_limits}
use Rattle.shards.specs.Sharing.{StandsFor, limits_for, rings_of}
use Rattle.shard_rings.specs.declared.run.RingTask.{RingTask}
use Rattle.shard_rings.specs.declared.run.Task.{Task}
use Rattle.shard_rings.specs.Jobs.{AllServe, HasBroughtOf}
use Rattle.shard_rings.specs.Making.{AreEnds, AreMadeOf, AreShards, AreTasks, HasBegun, IsLaid, IsNewRing}
use Rattle.shard_rings.proofs.Finishing.{at_all}
use Rattle.shard_rings.proofs.Made.{all_serve, all_stand}

-- a product of two numbers that aren't 0
pub some_room : (a b : ℕ) → 1 ≤ a → 1 ≤ b → 1 ≤ a * b
some_room zero b i j = absurd (omega (arith, i))
some_room (suc a) b i j = let e : suc a * b ≡ b + a * b = omega arith in omega (arith, e, j)

module _ {B T : Type 0} where
  pub weaker : (count n : ℕ) (P Q : ℕ → RingTask B T → Type 0) (tasks : List (Task B T)) → ((p : ℕ) (t : RingTask B T) → P p t → Q p t) → AreTasks count n P tasks → AreTasks count n Q tasks
  weaker count n P Q tasks f are = record { many = are.many; rings = λ p lt. (let h = are.rings p lt in (h.0, h.1, f p h.0 h.2)); works = are.works }

module _ {X H T O B : Type 0} {G : Ghosts X T O} (count : ℕ) (shared : List X) (before : List B) (residents : List (Shard X H T O G)) (tasks : List (Task B T)) (begun : HasBegun count shared before residents tasks) where
  pub many_residents : length residents ≡ length shared
  many_residents = begun.are_shards.count

  -- the residents are new, for so many rings
  pub they_stand : All (λ r. StandsFor r (all_new count) × (rings_of r ≡ count) × (limits_for r ≡ ring_limits count)) residents
  they_stand =
      at_all (λ (r : Shard X H T O G). StandsFor r (all_new count) × (rings_of r ≡ count) × (limits_for r ≡ ring_limits count)) residents
      (all_stand count shared begun.ends residents begun.are_ends begun.are_shards)

  -- the rings are new
  pub new_rings : (n : ℕ) → n ≡ length shared → AreTasks count n (IsNewRing n) tasks
  new_rings n e =
      subst (λ (k : ℕ). AreTasks count k (IsNewRing k) tasks) (sym e)
      (weaker count (length shared) (IsLaid before begun.ends) (IsNewRing (length shared)) tasks (λ p t is. subst (λ (k : ℕ). IsNewRing k p t) begun.are_ends.count is.ring) begun.are_tasks)

  pub many_jobs : (jobs : List (Job (Task B T))) → tasks ≡ tasks_in jobs → length jobs ≡ count + length residents
  many_jobs jobs are = let n = begun.are_tasks.many in let m = ap length are ∙ length-map jobs (λ j. j.task) in omega (arith, n, m, many_residents)

  -- and each squeue that was made serves them
  pub they_serve : (limits : Shard X H T O G → Limits) (ss : List (Named (Shard X H T O G))) → AreMadeOf limits count residents ss → AllServe limits ss count × AreTasks count (length ss) (IsNewRing (length ss)) tasks
  they_serve limits ss made = (all_serve limits count residents ss made, new_rings (length ss) (made.count ∙ many_residents))

-- the same of equal lists
pub moved : {B R T : Type 0} (limits : R → Limits) (Did : B → List (List T) → List (List T) → B → Type 0) (count : ℕ) (ss ss' : List (Named R)) (first first' tasks tasks' : List (Task B T)) (lent : ℕ → List (Option (Pass Element))) → ss' ≡ ss → first' ≡ first
    → tasks ≡ tasks' → AreTasks count (length ss') (HasBroughtOf limits ss' Did first' lent) tasks' → AreTasks count (length ss) (HasBroughtOf limits ss Did first lent) tasks
moved {B = B} {R = R} {T = T} limits Did count ss ss' first first' tasks tasks' lent a b e are =
    subst (λ (l : List (Named R)). AreTasks count (length l) (HasBroughtOf limits l Did first lent) tasks) a
    (subst (λ (f : List (Task B T)). AreTasks count (length ss') (HasBroughtOf limits ss' Did f lent) tasks) b
    (subst (λ (t : List (Task B T)). AreTasks count (length ss') (HasBroughtOf limits ss' Did first' lent) t) (sym e) are))

-- a run has begun with these
pub has_begun : {X H T O B : Type 0} {G : Ghosts X T O} (count many : ℕ) (shared : List X) (before : List B) (ends : List (Vec (SqueueEnd T) Global)) (residents : List (Shard X H T O G)) (tasks given : List (Task B T)) → count ≡ length before → many ≡ length shared
    → AreTasks (length before) many (IsLaid before ends) given → AreEnds (length before) many ends → AreShards shared ends residents → tasks ≡ given → HasBegun count shared before residents tasks
has_begun {T = T} {B = B} count many shared before ends residents tasks given a b are_tasks are_ends are_shards same =
    record {
      ends = ends;
      all = sym a;
      are_ends = subst (λ (n : ℕ). AreEnds n (length shared) ends) (sym a) (subst (λ (n : ℕ). AreEnds (length before) n ends) b are_ends);
      are_tasks =
          subst (λ (t : List (Task B T)). AreTasks count (length shared) (IsLaid before ends) t) (sym same)
          (subst (λ (n : ℕ). AreTasks n (length shared) (IsLaid before ends) given) (sym a) (subst (λ (n : ℕ). AreTasks (length before) n (IsLaid before ends) given) b are_tasks));
      are_shards = are_shards;
    }
