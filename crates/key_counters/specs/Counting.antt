-- What the resident of counters stands for.
use Rattle.std.specs.Prelude.{◌≡◌, ◌≤◌, ℕ, Bool, true, false, Option, Some, None, List, [], ◌∷◌, length, map, sum, take, if◌then◌else◌, slice_index_or}
use Rattle.squeue.specs.declared.Act.{Act}
use Rattle.squeue.specs.History.{Limits}
use Rattle.squeue.specs.declared.Act.TheVariants as Did
use Rattle.squeue.specs.Deeds.{fed}
use Rattle.key_counters.specs.declared.counters.Counter.{Counter}
use Rattle.key_counters.specs.declared.counters.Amounts.{Amounts}

-- for each key its amounts
abbrev pub rows_of : Amounts → List (List ℕ)
rows_of r = map (λ row. row.items) r.rows.now

abbrev pub row_of : List (List ℕ) → ℕ → List ℕ
row_of rows c = slice_index_or rows c []

-- The counter of key c, whose amounts are given: its total is the sum of as many first amounts as it had, and what its last
-- reading found is the sum of as many as there were then
pub record Counts (c : ℕ) (row : List ℕ) (k : Counter) : Type 0 where
  pub key : k.key ≡ c
  pub within : k.had ≤ length row
  pub total : k.total ≡ sum (take k.had row)
  pub read : k.read ≡ sum (take k.read_at row)

abbrev pub IsPartOf : List (List ℕ) → ℕ → Counter → Type 0
IsPartOf rows c k = Counts c (row_of rows c) k

abbrev pub has_reading : List Act → Bool
has_reading [] = false
has_reading (Did.Feed n ∷ acts) = has_reading acts
has_reading (Did.Call j k ∷ acts) = true

-- the acts before the last reading; none where there is no reading
abbrev pub before_last_reading : List Act → List Act
before_last_reading [] = []
before_last_reading (act ∷ acts) = if has_reading acts then act ∷ before_last_reading acts else []

-- the counter has had as many feeds, and its last reading found as many as stand before it
pub record HasAdded (k : Counter) (had : List Act) : Type 0 where
  pub feeds : fed had ≡ k.had
  pub read : fed (before_last_reading had) ≡ k.read_at

-- the readings that there are: key, thread and number
abbrev pub readings_of : Amounts → List (ℕ × ℕ × ℕ)
readings_of r = r.readings.now

-- each key has a feed for each of its amounts, no counter leaves, and the calls are the readings
abbrev pub limits_of : Amounts → Limits
limits_of r = record { feeds = map length (rows_of r); leaves = []; calls = readings_of r }

-- what a place holds for the totals
abbrev pub total_of : Option Counter → ℕ
total_of (Some k) = k.total
total_of None = 0

-- what the last reading of a key with these amounts found, by the acts on its counter
abbrev pub found_by_reading : List ℕ → List Act → ℕ
found_by_reading row had = sum (take (fed (before_last_reading had)) row)
