-- How much a squeue is made for: so few passes and entries that its counts fit.
use Rattle.std.specs.Prelude.{ℕ, ◌+◌, ◌^◌}

-- the most quotas: one for each pass but the worker's
abbrev pub most_quotas : ℕ
most_quotas = 63

-- the most passes, with the worker's
abbrev pub most_passes : ℕ
most_passes = most_quotas + 1

-- the most feeds of all quotas together: what is queued can be counted in 32 bits
abbrev pub most_feeds : ℕ
most_feeds = 2 ^ 30

-- the most asks of all quotas together
abbrev pub most_asks : ℕ
most_asks = 2 ^ 40

-- the most feeds, and the most asks, of all lives together: 57 years at 160 million of them a second
abbrev pub most_ever : ℕ
most_ever = 2 ^ 58

-- the most entries that are queued at once, with those in the owner's hand
abbrev pub most_room : ℕ
most_room = most_feeds + most_passes

-- no more entries come than so many, feeds and asks: their marks can be counted in 64 bits
abbrev pub most_entries : ℕ
most_entries = 2 ^ 59
