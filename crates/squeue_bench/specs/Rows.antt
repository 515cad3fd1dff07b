-- What a ring brings.
use Rattle.std.specs.Prelude.{◌≡◌, ◌<◌, ℕ, List, length, slice_index_or}
use Rattle.perimeter_core.specs.declared.entries.Feed.{Feed}

-- the feeds 0 to n - 1 of key c, in order
abbrev pub IsRow : ℕ → ℕ → List Feed → Type 0
IsRow c n feeds = (length feeds ≡ n) × ((i : ℕ) (d : Feed) → i < n → slice_index_or feeds i d ≡ record { c = c; n = i })
