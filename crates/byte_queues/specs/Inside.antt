-- What the fields of a receive queue stand for.
use Rattle.std.specs.Prelude.{◌+◌, ◌^◌, ◌≤◌, true, min}
use Rattle.byte_queues.specs.ReceiveQueue.{Recv, runs, next_of}
use Rattle.byte_queues.specs.Runs.{cells_from, IsSpaced}
use Rattle.byte_queues.specs.declared.recv.RecvQueue.TheInside.{Inside}
use Rattle.byte_queues.specs.Limits.{most_runs, position_limit}

abbrev pub recv_of : Inside → Recv
recv_of a = record { got = cells_from a.taken a.runs.items; taken = a.taken; edge = a.edge; cap = a.cap; stream_end = a.stream_end }

pub record IsQueue (a : Inside) : Type 0 where
  pub spaced : IsSpaced a.taken (min (a.edge + 1) (position_limit + 2 ^ 32)) a.runs.items
  pub few : runs true (cells_from a.taken a.runs.items) ≤ most_runs
  pub edge : a.edge + 1 ≤ a.taken + 2 ^ 32
  pub read : a.taken ≤ next_of (recv_of a)
