-- How many amounts there are, and what they come to.
use Rattle.std.specs.Prelude.{◌≡◌, ℕ, ◌+◌, ◌%◌, ◌^◌, Option, Some, None, List, [], length, sum, sum_by}
use Rattle.squeue_streams.specs.declared.streams.Stream.{Stream}
use Rattle.squeue_streams.specs.Taking.{items_of, state_of}
use Rattle.endless_counters.specs.declared.totals.Total.{Total}

-- the total of no amounts
abbrev pub zero : Total
zero = record { amounts = 0; total = 0 }

-- one amount more
pub record Adds (from : Total) (amount : ℕ) (to : Total) : Type 0 where
  pub amounts : to.amounts ≡ (from.amounts + 1) % 2 ^ 64
  pub total : to.total ≡ (from.total + amount) % 2 ^ 64

module _ {A : Type 0} where
  -- the total is the sum of those that these hold
  pub record AreSummed (held : A → Total) (all : List A) (seen : Total) : Type 0 where
    pub amounts : seen.amounts ≡ sum_by (λ x. (held x).amounts) all % 2 ^ 64
    pub total : seen.total ≡ sum_by (λ x. (held x).total) all % 2 ^ 64

  -- The total is of the amounts of all of these: of how many, and of their sum, modulo 2^64
  pub record AreTotals (taken : A → List ℕ) (all : List A) (seen : Total) : Type 0 where
    pub amounts : seen.amounts ≡ sum_by (λ x. length (taken x)) all % 2 ^ 64
    pub total : seen.total ≡ sum_by (λ x. sum (taken x)) all % 2 ^ 64

-- what the part at a place holds, and which amounts it has taken, where it's here
abbrev pub held_at : Option (Stream ℕ Total) → Total
held_at (Some stream) = state_of stream
held_at None = zero

abbrev pub taken_at : Option (Stream ℕ Total) → List ℕ
taken_at (Some stream) = items_of stream
taken_at None = []
