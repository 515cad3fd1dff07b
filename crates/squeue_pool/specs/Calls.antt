-- Parts that move and are called: what is asked of the work, and what each part has had in the end.
use Rattle.std.specs.Prelude.{◌≡◌, ℕ, suc, ◌<◌, ◌≤◌, ◌^◌, All, Some, List, [], ◌∷◌, ◌++◌, length, slice_get, slice_index, sum}
use Rattle.perimeter_core.specs.declared.entries.Act.{Act}
use Rattle.perimeter_core.specs.Deeds.{fed}
use Rattle.perimeter_core.specs.History.{Limits}
use Rattle.perimeter_core.specs.Numbered.{IsNumbered}
use Rattle.placed_parts.specs.declared.parts.Parts.{Ghosts}
use Rattle.placed_parts.specs.declared.places.Places.{Places}
use Rattle.squeue_rings.specs.Made.{once_on}
use Rattle.squeue_rings.specs.Doing.{called_by}
use Rattle.squeue_pool.specs.Finishing.{FinishedOf, HasFinished}
use Rattle.squeue_pool.specs.Counting.{times_called}
use Rattle.squeue_pool.specs.Keys.{key_lists}
use Rattle.squeue_pool.specs.declared.pool.Pool.{Pool}
use Rattle.squeue_pool.specs.Placed.{AreNew, as_resident}
use Rattle.squeue_pool.specs.Works.{WorkOf}
use Rattle.squeue_pool.specs.Quotas.{call_quotas}

-- few enough that all asks can be counted
pub record AreFew (counts : List ℕ) (calls : List (List ℕ)) : Type 0 where
  pub conns : length counts < 2 ^ 32
  pub feeds : sum counts ≤ 2 ^ 20
  pub called : All (λ called. length called ≤ 2 ^ 12) calls

-- the calls of the threads from j on, and those of thread j from its call k on: each list names the connection of each call
abbrev pub calls_from : ℕ → ℕ → List ℕ → List (ℕ × ℕ × ℕ)
calls_from j k [] = []
calls_from j k (c ∷ called) = (c, j, k) ∷ calls_from j (suc k) called

abbrev pub all_from : ℕ → List (List ℕ) → List (ℕ × ℕ × ℕ)
all_from j [] = []
all_from j (called ∷ calls) = calls_from j 0 called ++ all_from (suc j) calls

-- each connection may have so many feeds, and leave as often, and each call of the lists exists
abbrev pub limits_for : List ℕ → List (List ℕ) → Limits
limits_for counts calls = record { feeds = counts; leaves = counts; calls = all_from 0 calls }

-- the work of so many squeues and rings
abbrev pub called_work : {R : Type 0} → ℕ → ℕ → List ℕ → List (List ℕ) → List R → WorkOf R
called_work squeues rings counts calls residents =
    record {
      conns = length counts;
      residents = residents;
      quotas = call_quotas squeues (key_lists rings counts) counts calls;
      lists = key_lists rings counts;
      calls = calls;
    }

-- A part stands for acts in which there are so many feeds, numbered from 0 on, and each call of the threads that is on connection c
-- once, and no other
pub record HadBoth (Stands : List Act → Type 0) (feeds : ℕ) (calls : List (List ℕ)) (c : ℕ) : Type 0 where
  pub had : List Act
  pub stands : Stands had
  pub numbered : IsNumbered had
  pub fed_all : fed had ≡ feeds
  pub called_all : (j k : ℕ) → times_called j k had ≡ once_on (called_by calls j) c k

module _ {S P O : Type 0} (G : Ghosts S P O) (shared : S) (counts : List ℕ) (calls : List (List ℕ)) where
  -- the part of connection c lies at its place; it is its own, and has had all its feeds and all its calls
  pub record HadAll (f : FinishedOf P) (c : ℕ) : Type 0 where
    pub part : P
    pub lies : slice_get f.parts c ≡ Some (Some part)
    pub own : G.is_part_of (G.origin shared) c part
    pub had : HadBoth (G.part_stands part) (slice_index counts c) calls c

  -- each connection's does
  pub record HaveHadAll (f : FinishedOf P) : Type 0 where
    pub count : length f.parts ≡ length counts
    pub each : (c : ℕ) → c < length counts → HadAll f c

  -- The squeues and rings of this pool have done it, from places where nothing was done: connections moved from one to the next as its
  -- homes say, and its threads made their calls, by histories that are handed on
  pub record WasDoneBy (pool : Pool) (f : FinishedOf P) : Type 0 where
    pub residents : List (Places S P O G)
    pub new : AreNew shared (length counts) pool.pace.homes.squeues residents
    pub finished : HasFinished (as_resident G) pool (called_work pool.pace.homes.squeues pool.rings counts calls residents) f
