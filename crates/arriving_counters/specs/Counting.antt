-- The sums of the amounts that a source gave, by key.
use Rattle.std.specs.Prelude.{◌≡◌, ◌≢◌, ℕ, ◌%◌, ◌^◌, ◌≤◌, Some, List, [], Contains, length, nat_eq, slice_get, sum}
use Rattle.std.specs.List.{IsDistinct}
use Rattle.squeue_arrivals.specs.Arriving.{HasGiven, items_for, keys_of}
use Rattle.squeue_arrivals.specs.declared.served.KeyPart.{KeyPart}
use Rattle.squeue_arrivals.specs.declared.served.ServedSource.{ServedSource}

-- A source gave these amounts: there is one part for each key among them, and no other, and there are no more than places. The state of a part is
-- the sum of its key's amounts
pub record HasCounted {A O : Type 0} (origin : A → O) (given : A → List (ℕ × ℕ)) (is_over : A → Type 0) (most : ℕ) (source : A) (left : ServedSource A ℕ ℕ) : Type 0 where
  pub all : List (ℕ × ℕ)
  pub its_items : HasGiven origin given is_over most (length left.parts.items) all source left.source left.refused
  pub few : length left.parts.items ≤ most
  pub distinct : IsDistinct nat_eq (keys_of left.parts.items)
  pub each : (i : ℕ) (part : KeyPart ℕ) → slice_get left.parts.items i ≡ Some part
      → (items_for part.key all ≢ []) × (part.state ≡ sum (items_for part.key all) % 2 ^ 64)
  pub every : (k : ℕ) → items_for k all ≢ [] → Contains (keys_of left.parts.items) k
