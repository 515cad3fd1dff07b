-- What holds of jobs by their numbers.
use Rattle.std.specs.Prelude.{◌≡◌, ℕ, ◌<◌, Bool, true, false, List, length, slice_index_or}

-- This holds of each job and its number
pub record EachByNumber {X : Type 0} (P : ℕ → X → Type 0) (xs : List X) : Type 0 where
  pub each : (k : ℕ) (d : X) → k < length xs → P k (slice_index_or xs k d)

-- And this of each job before, and after: there are as many
pub record BecameByNumber {X : Type 0} (Q : ℕ → X → X → Type 0) (xs ys : List X) : Type 0 where
  pub same : length ys ≡ length xs
  pub each : (k : ℕ) (d : X) → k < length xs → Q k (slice_index_or xs k d) (slice_index_or ys k d)

-- a job was done, or it is left as it was
abbrev pub IsDoneIf : {X : Type 0} → Bool → (X → X → Type 0) → X → X → Type 0
IsDoneIf true Q x y = Q x y
IsDoneIf false Q x y = y ≡ x
