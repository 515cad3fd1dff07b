-- The numbers that a plan fixes. How many records a capture has, and its latest time, are limits of `capture_reader`.
use Rattle.std.specs.Prelude.{ℕ, ◌+◌, ◌*◌}
use Rattle.capture_reader.specs.Limits.{most_records}

-- the most connections of a plan: later ones don't fit
abbrev pub most_conns : ℕ
most_conns = 4096

-- the most items of a connection: a segment and a time item for each record, and the last time item
abbrev pub most_items : ℕ
most_items = 2 * most_records + 1

-- from how many microseconds between two segments on a time item stands before the second
abbrev pub least_gap : ℕ
least_gap = 100000
