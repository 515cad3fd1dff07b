-- The receive queue: the peer's bytes by position (RFC 9293, 3.3.1 and 3.4).
use Rattle.std.specs.Prelude.{ℕ, ◌+◌, ◌-◌, ◌==◌, nat_lt, min, max, Bool, true, false, List, [], ◌∷◌, take, drop, Option, None, Some, suc, zero, if◌then◌else◌}
use Rattle.byte_queues.specs.declared.recv.Placed.{Placed}
use Rattle.byte_queues.specs.declared.recv.Placed.TheVariants.{Held, Blocks}
use Rattle.byte_queues.specs.Limits.{most_runs}

-- one position of a stream: the byte there, where it is held
abbrev pub Cells : Type 0
Cells = List (Option ℕ)

pub record Recv : Type 0 where
  -- the positions from `taken` on; behind the last one nothing is held
  pub got : Cells
  -- how many bytes the service took
  pub taken : ℕ
  -- the right edge of the window: RCV.NXT + RCV.WND as a position
  pub edge : ℕ
  pub cap : ℕ
  -- the position of the peer's FIN, where it is known
  pub stream_end : Option ℕ

abbrev pub empty_recv : ℕ → Recv
empty_recv cap = record { got = []; taken = 0; edge = cap; cap = cap; stream_end = None }

-- so many positions that aren't held, and bytes that are, before others
abbrev pub gap : ℕ → Cells → Cells
gap zero cs = cs
gap (suc n) cs = None ∷ gap n cs

abbrev pub held : List ℕ → Cells → Cells
held [] cs = cs
held (x ∷ xs) cs = Some x ∷ held xs cs

-- how many cells in front are held without a gap
abbrev pub front : Cells → ℕ
front [] = 0
front (None ∷ cs) = 0
front (Some x ∷ cs) = suc (front cs)

-- how many runs of held cells begin in the list; the flag says whether the cell before it is held
abbrev pub runs : Bool → Cells → ℕ
runs before [] = 0
runs before (None ∷ cs) = runs false cs
runs true (Some x ∷ cs) = runs true cs
runs false (Some x ∷ cs) = suc (runs true cs)

-- the runs of held cells with the position at which each begins; the list begins at a position
abbrev pub grown : ℕ → ℕ → List (ℕ × List ℕ) → List (ℕ × List ℕ)
grown at x [] = (at, x ∷ []) ∷ []
grown at x (r ∷ rs) = if r.0 == at + 1 then (at, x ∷ r.1) ∷ rs else (at, x ∷ []) ∷ r ∷ rs

abbrev pub runs_of : ℕ → Cells → List (ℕ × List ℕ)
runs_of at [] = []
runs_of at (None ∷ cs) = runs_of (at + 1) cs
runs_of at (Some x ∷ cs) = grown at x (runs_of (at + 1) cs)

-- the bytes that are held, in order
abbrev pub bytes : Cells → List ℕ
bytes [] = []
bytes (None ∷ cs) = bytes cs
bytes (Some x ∷ cs) = x ∷ bytes cs

-- two lists of cells laid over each other: the first one's byte stays
abbrev pub first : Option ℕ → Option ℕ → Option ℕ
first (Some x) d = Some x
first None d = d

abbrev pub over_cells : Cells → Cells → Cells
over_cells [] ds = ds
over_cells (c ∷ cs) [] = c ∷ cs
over_cells (c ∷ cs) (d ∷ ds) = first c d ∷ over_cells cs ds

-- a text that begins n positions on; no cell where it is empty
abbrev pub cells_at : ℕ → List ℕ → Cells
cells_at n [] = []
cells_at n (x ∷ xs) = gap n (held (x ∷ xs) [])

abbrev pub up_to : Option ℕ → ℕ → ℕ
up_to None n = n
up_to (Some most) n = min most n

-- the largest position, not above the end, below which every byte is held
unfoldable pub next_of : Recv → ℕ
next_of q = up_to q.stream_end (q.taken + front q.got)

unfoldable pub window_of : Recv → ℕ
window_of q = q.edge - next_of q

unfoldable pub ready_of : Recv → ℕ
ready_of q = next_of q - q.taken

abbrev pub is_at : Option ℕ → ℕ → Bool
is_at None n = false
is_at (Some f) n = f == n

-- the end is known, and all before it is held
unfoldable pub is_ended : Recv → Bool
is_ended q = is_at q.stream_end (next_of q)

-- the queue with cells in place of those that it holds, or None where more than the most runs would stand above `next`
abbrev pub holding : Cells → Recv → Option Recv
holding cs q = if nat_lt most_runs (runs true cs) then None else Some (record q { got = cs })

-- the queue with a text placed: bytes at and above the edge and the end are dropped, and the first copy of a byte stays
unfoldable pub placed : ℕ → List ℕ → Recv → Option Recv
placed at text q = holding (over_cells q.got (cells_at (at - q.taken) (take (up_to q.stream_end q.edge - at) text))) q

-- the same for a text that is below the edge and the end
abbrev pub laid : ℕ → List ℕ → Recv → Option Recv
laid at text q = holding (over_cells q.got (gap (at - q.taken) (held text []))) q

-- an answer of the code with the queue that it leaves
abbrev pub placed_as : Placed → Recv → Option Recv
placed_as Held q = Some q
placed_as Blocks q = None

-- the next n bytes, and the queue without them
unfoldable pub next_bytes : ℕ → Recv → List ℕ
next_bytes n q = bytes (take n q.got)

unfoldable pub without : ℕ → Recv → Recv
without n q = record q { got = drop n q.got; taken = q.taken + n; edge = max q.edge (q.taken + n + q.cap) }

-- the queue without what it holds behind a gap
unfoldable pub without_ahead : Recv → Recv
without_ahead q = record q { got = take (front q.got) q.got }

unfoldable pub with_cap : ℕ → Recv → Recv
with_cap n q = record q { cap = n; edge = max q.edge (q.taken + n) }

unfoldable pub with_end : ℕ → Recv → Recv
with_end f q = record q { stream_end = Some f }
