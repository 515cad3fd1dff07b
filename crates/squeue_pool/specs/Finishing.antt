-- What is left of squeues that have ended.
use Rattle.std.specs.Prelude.{◌≡◌, ℕ, ◌<◌, true, false, Option, Some, None, List, [], length, map, slice_get}
use Rattle.perimeter_core.specs.declared.entries.Act.{Act}
use Rattle.perimeter_core.specs.declared.marks.SynchAct.TheVariants as Done
use Rattle.perimeter_core.specs.declared.resident.Resident.{Ghosts}
use Rattle.perimeter_core.specs.Blocks.{Blocks, peri, with_act}
use Rattle.perimeter_core.specs.Deeds.{acts}
use Rattle.perimeter_core.specs.History.{run}
use Rattle.perimeter_core.specs.Perimeter.{is_here}
use Rattle.histories.specs.Endings.{Ending}
use Rattle.squeue_state.specs.Told.{Traced}
use Rattle.squeue_pool.specs.declared.pool.Pool.{Pool}
use Rattle.squeue_pool.specs.declared.work.Left.{Left}
use Rattle.squeue_pool.specs.Runs.{HasRun, ends_of}
use Rattle.squeue_pool.specs.Works.{WorkOf}

-- at the place of each connection its part, if it lies there; and by number the end and the trace of each squeue
pub record FinishedOf (P : Type 0) : Type 0 where
  pub parts : List (Option P)
  pub ended : List Ending
  pub traces : List Traced

-- nothing lies at any of these places
abbrev pub AreEmpty : {P : Type 0} → List (Option P) → Type 0
AreEmpty places = (c : ℕ) → c < length places → slice_get places c ≡ Some None

-- the blocks after that of connection c was taken out, if it was here
abbrev pub taken_if : Option (List Act) → ℕ → Blocks → Blocks
taken_if (Some had) c blocks = with_act (Done.Out c) [] blocks
taken_if None c blocks = blocks

abbrev pub taken : ℕ → Blocks → Blocks
taken c blocks = taken_if (blocks c) c blocks

module _ {R P O : Type 0} (G : Ghosts R P O) where
  -- What lies at the place of connection c, after this lay there: where the connection was here, its part, one of those that the
  -- residents with this origin give out, which stands for what was done to it; else what lay there
  abbrev pub PartTaken : O → ℕ → Option (List Act) → Option (Option P) → Option (Option P) → Type 0
  PartTaken o c (Some had) old new = (part : P) × (new ≡ Some (Some part)) × G.is_part_of o c part × G.part_stands part had
  PartTaken o c None old new = new ≡ old

  -- the parts of all connections that were here in a resident were taken out of it
  pub record AreTaken (r : R) (old new : List (Option P)) : Type 0 where
    pub count : length new ≡ length old
    pub each : (blocks : Blocks) → G.stands r blocks → (c : ℕ) → c < length old → PartTaken (G.origin r) c (blocks c) (slice_get old c) (slice_get new c)

  -- what was left, of so many connections: each resident stands for what its squeue's history did
  pub record HaveStood (conns : ℕ) (vs : List (Left R)) : Type 0 where
    pub stands : (q : ℕ) (v : Left R) → slice_get vs q ≡ Some v → G.stands v.resident (peri v.end.setting v.end.history)
    pub sizes : (q : ℕ) (v : Left R) → slice_get vs q ≡ Some v → G.size v.resident ≡ conns

  module _ (vs : List (Left R)) (c : ℕ) where
    -- connection c is here after none of these histories
    abbrev pub IsNowhere : Type 0
    IsNowhere = (q : ℕ) (v : Left R) → slice_get vs q ≡ Some v → is_here (run v.end.setting v.end.history) c ≡ false

    -- It is here after one of them. The part is its own, of that squeue's resident, and stands for what was done to it there
    pub record LayIn (part : P) : Type 0 where
      pub q : ℕ
      pub left : Left R
      pub is_left : slice_get vs q ≡ Some left
      pub here : is_here (run left.end.setting left.end.history) c ≡ true
      pub own : G.is_part_of (G.origin left.resident) c part
      pub stands : G.part_stands part (acts left.end.setting left.end.history c)

    -- what lies at its place
    abbrev pub LiesSo : Option (Option P) → Type 0
    LiesSo None = ⊥
    LiesSo (Some None) = IsNowhere
    LiesSo (Some (Some part)) = LayIn part

  -- The run has left this: the whole of the histories with their traces, and at the place of each connection its part, which lay in
  -- one of the residents
  pub record HasFinished (pool : Pool) (w : WorkOf R) (f : FinishedOf P) : Type 0 where
    pub left : List (Left R)
    pub ran : HasRun G pool w left
    pub ended : f.ended ≡ ends_of left
    pub traces : f.traces ≡ map (λ v. v.trace) left
    pub count : length f.parts ≡ w.conns
    pub each : (c : ℕ) → c < w.conns → (part : P) × (slice_get f.parts c ≡ Some (Some part)) × LayIn left c part
