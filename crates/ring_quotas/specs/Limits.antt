-- The numbers that a setup may have, and the most entries that a pass may enter at a squeue.
use Rattle.std.specs.Prelude.{ℕ, ◌+◌, ◌*◌}
use Rattle.capture_reader.specs.Limits.{most_records}
use Rattle.conn_classifier.specs.Limits.{most_conns, most_items}
use Rattle.conn_blocks.specs.Limits.{most_calls}

-- the most squeues, and the most rings
abbrev pub most_squeues : ℕ
most_squeues = 16

abbrev pub most_rings : ℕ
most_rings = 8

-- the greatest budget that words ask for and a report tells
abbrev pub most_budget : ℕ
most_budget = 65535

-- after how many feeds a connection moves on, at most
abbrev pub most_spread : ℕ
most_spread = 65535

-- the feeds of a ring: all connections together have two items a record, and one more each
abbrev pub most_ring_feeds : ℕ
most_ring_feeds = 2 * most_records + most_conns

-- the asks of a ring: no connection leaves a squeue, or comes to it, more often than it has items
abbrev pub most_ring_asks : ℕ
most_ring_asks = 2 * most_ring_feeds

-- the asks of an application thread: one for each call, and one more for each time that the call's connection leaves
abbrev pub most_caller_asks : ℕ
most_caller_asks = most_calls * (most_items + 1)
