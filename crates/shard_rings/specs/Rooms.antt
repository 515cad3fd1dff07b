-- Room for what is left of a run.
use Rattle.std.specs.Prelude.{◌≡◌, ℕ, ◌≤◌, Vec, [], vec_capacity}
use Rattle.std.proofs.Common.{Global}
use Rattle.shard_rings.specs.declared.run.Room.{Room}

-- there is room for so many, and nothing in it
abbrev pub IsFor : {A : Type 0} → ℕ → Vec A Global → Type 0
IsFor n v = (v.items ≡ []) × (n ≤ vec_capacity v)

-- there is room for what is left of so many rings and squeues
pub record HasRoom {X R B T : Type 0} (rings squeues : ℕ) (r : Room X R B T) : Type 0 where
  pub left : IsFor squeues r.left
  pub bringers : IsFor rings r.brought.rings
  pub rows : IsFor rings r.brought.rows
  pub column : IsFor rings r.column
  pub served : IsFor squeues r.served
