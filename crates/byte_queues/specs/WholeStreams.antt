-- The whole streams, of which a queue keeps what isn't taken and what isn't acknowledged.
use Rattle.std.specs.Prelude.{ℕ, ◌+◌, ◌-◌, ◌≤◌, nat_lt, max, true, List, [], ◌∷◌, length, take, drop, Option, None, Some, suc, zero, if◌then◌else◌}
use Rattle.byte_queues.specs.ReceiveQueue.{Cells, Recv, front, runs, over_cells, cells_at, up_to, bytes}
use Rattle.byte_queues.specs.Limits.{most_runs}

-- the byte at a position of a stream
abbrev pub cell : Cells → ℕ → Option ℕ
cell [] i = None
cell (c ∷ cs) zero = c
cell (c ∷ cs) (suc i) = cell cs i

-- The peer's stream: here `got` has every position from 0 on, and nothing leaves it.

abbrev pub whole_next : Recv → ℕ
whole_next q = up_to q.stream_end (front q.got)

abbrev pub whole_holding : Cells → Recv → Option Recv
whole_holding cs q = if nat_lt most_runs (runs true cs) then None else Some (record q { got = cs })

abbrev pub whole_placed : ℕ → List ℕ → Recv → Option Recv
whole_placed at text q = whole_holding (over_cells q.got (cells_at at (take (up_to q.stream_end q.edge - at) text))) q

abbrev pub whole_bytes : ℕ → Recv → List ℕ
whole_bytes n q = bytes (take n (drop q.taken q.got))

abbrev pub whole_without : ℕ → Recv → Recv
whole_without n q = record q { taken = q.taken + n; edge = max q.edge (q.taken + n + q.cap) }

-- all that was taken was held
abbrev pub IsRead : Recv → Type 0
IsRead q = q.taken ≤ front q.got

-- what is kept of it
abbrev pub trim : Recv → Recv
trim q = record q { got = drop q.taken q.got }

-- Our stream: all bytes offered, how many of them were acknowledged, and how many were sent.

pub record Sent : Type 0 where
  pub all : List ℕ
  pub acked : ℕ
  pub sent : ℕ

pub record IsSent (s : Sent) : Type 0 where
  pub acked : s.acked ≤ s.sent
  pub sent : s.sent ≤ length s.all

-- what is kept of it
abbrev pub kept_out : Sent → List ℕ
kept_out s = drop s.acked s.all
