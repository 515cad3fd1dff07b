-- Runs of bytes, and the cells for which they stand.
use Rattle.std.specs.Prelude.{ℕ, ◌+◌, ◌-◌, ◌<◌, ◌≤◌, ◌==◌, nat_lt, nat_le, min, List, [], ◌∷◌, ◌++◌, length, take, drop, suc, if◌then◌else◌}
use Rattle.byte_queues.specs.ReceiveQueue.{Cells, gap, held}
use Rattle.byte_queues.specs.declared.run.Run.{Run}

abbrev pub end_of : Run → ℕ
end_of r = r.start + length r.bytes

-- the cells from a position on
abbrev pub cells_from : ℕ → List Run → Cells
cells_from at [] = []
cells_from at (r ∷ rs) = gap (r.start - at) (held r.bytes (cells_from (r.start + length r.bytes) rs))

-- how many bytes they have
abbrev pub held_of : List Run → ℕ
held_of [] = 0
held_of (r ∷ rs) = length r.bytes + held_of rs

-- runs with bytes, from one position on and below another, with a gap between each two
abbrev pub IsSpaced : ℕ → ℕ → List Run → Type 0
IsSpaced low high [] = low ≤ high
IsSpaced low high (r ∷ rs) = (low ≤ r.start) × (0 < length r.bytes) × IsSpaced (r.start + length r.bytes + 1) high rs

-- how many runs in front end before a position, with a gap
abbrev pub count_before : ℕ → List Run → ℕ
count_before at [] = 0
count_before at (r ∷ rs) = if nat_lt (end_of r) at then suc (count_before at rs) else 0

-- how many runs in front begin at or before a position
abbrev pub count_up_to : ℕ → List Run → ℕ
count_up_to stop [] = 0
count_up_to stop (r ∷ rs) = if nat_le r.start stop then suc (count_up_to stop rs) else 0

-- the part of a text at `at` between two positions
abbrev pub part : ℕ → List ℕ → ℕ → ℕ → List ℕ
part at text from to = drop (from - at) (take (to - at) text)

-- the bytes from a position on: the runs', and those of a text at `at` between and behind them
abbrev pub fill : ℕ → ℕ → List ℕ → List Run → List ℕ
fill next at text [] = drop (next - at) text
fill next at text (r ∷ rs) = part at text next r.start ++ (r.bytes ++ fill (end_of r) at text rs)

-- the runs without the first n bytes of the first one
abbrev pub dropped_some : ℕ → List Run → List Run
dropped_some n [] = []
dropped_some n (r ∷ rs) = if length r.bytes == n then rs else record { start = r.start + n; bytes = drop n r.bytes } ∷ rs

abbrev pub dropped : ℕ → List Run → List Run
dropped n rs = if n == 0 then rs else dropped_some n rs

-- the bytes of the run that begins at a position, where the first one does
abbrev pub front_of : ℕ → List Run → List ℕ
front_of at [] = []
front_of at (r ∷ rs) = if r.start == at then r.bytes else []

-- where a text at `at` with the runs that it touches begins
abbrev pub start_of : ℕ → List Run → ℕ
start_of at [] = at
start_of at (r ∷ rs) = min at r.start

-- a text at `at` and the runs that it touches as one run
abbrev pub joined_run : ℕ → List ℕ → List Run → Run
joined_run at text rs = record { start = start_of at rs; bytes = fill (start_of at rs) at text rs }

-- the runs with a text at `at`, which touches n of them from place i on
abbrev pub joined : ℕ → ℕ → ℕ → List ℕ → List Run → List Run
joined i n at text rs = take i rs ++ joined_run at text (take n (drop i rs)) ∷ drop n (drop i rs)
