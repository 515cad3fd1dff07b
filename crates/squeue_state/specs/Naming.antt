-- What contracts see of a squeue, a turn, a hand and what is left of a squeue at its end.
use Rattle.std.specs.Prelude.{ℕ, Bool, Option, List}
use Rattle.atomic_table.specs.Seated.{TableId}
use Rattle.perimeter_core.specs.declared.entries.Entry.{Entry}
use Rattle.perimeter_core.specs.History.{Element, Setting, Limits}
use Rattle.turn_gate.specs.declared.views.LockStep.{LockStep}

-- what a squeue was made with, but for its resident: of each pass but the worker's, how many feeds and asks it may enter;
-- for each connection, whether its block was here; whether the marks are kept; and how many entries may be queued at once
pub record Chosen : Type 0 where
  pub number : ℕ
  pub rings : ℕ
  pub quotas : List (ℕ × ℕ)
  pub starts : List Bool
  pub traced : Bool
  pub room : ℕ

-- the same with the resident
pub record Given (R : Type 0) : Type 0 where
  pub number : ℕ
  pub rings : ℕ
  pub quotas : List (ℕ × ℕ)
  pub starts : List Bool
  pub traced : Bool
  pub room : ℕ
  pub first : R

-- a squeue: which gate it has, and what it was made with
pub record Named (R : Type 0) : Type 0 where
  pub gate : TableId
  pub given : Given R

-- a turn: its squeue, its pass's number, the history that it found, the pass's own elements in it, and all its pass's steps
-- on the lock word
pub record Turned (R : Type 0) : Type 0 where
  pub squeue : Named R
  pub number : ℕ
  pub found : List Element
  pub mine : List Element
  pub made : List LockStep

-- what is left of a hand, and the room of its buffer; one feed taken by Fast has no buffer
pub record Handed : Type 0 where
  pub left : List Entry
  pub room : Option ℕ

abbrev pub setting_of : {R : Type 0} → (R → Limits) → Given R → Setting
setting_of limits g = record { rings = g.rings; quotas = g.quotas; starts = g.starts; limits = limits g.first }
