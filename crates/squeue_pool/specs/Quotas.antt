-- How much each pass may enter at any squeue, where a connection may leave one before each of its feeds.
use Rattle.std.specs.Prelude.{ℕ, ◌+◌, ◌*◌, List, ◌++◌, length, map, slice_index, sum_by}
use Rattle.std.specs.List.{range_with_len}
use Rattle.perimeter_core.specs.declared.entries.Feed.{Feed}

-- a ring may enter all feeds of its list, and asks at most twice before each, once to move out and once to move in
abbrev pub ring_quota : List Feed → ℕ × ℕ
ring_quota list = (length list, 2 * length list)

-- a thread asks once for each call, and once more for each time that the connection may leave; it may as often as it has feeds
abbrev pub asks_of : List ℕ → List ℕ → ℕ
asks_of counts called = sum_by (λ c. 1 + slice_index counts c) called

abbrev pub thread_quota : List ℕ → List ℕ → ℕ × ℕ
thread_quota counts called = (0, asks_of counts called)

-- those of all passes of a squeue but the worker's
abbrev pub quotas_of : List (List Feed) → List ℕ → List (List ℕ) → List (ℕ × ℕ)
quotas_of lists counts calls = map ring_quota lists ++ map (thread_quota counts) calls

-- the same for each of so many squeues
abbrev pub call_quotas : ℕ → List (List Feed) → List ℕ → List (List ℕ) → List (List (ℕ × ℕ))
call_quotas squeues lists counts calls = map (λ q. quotas_of lists counts calls) (range_with_len 0 squeues)
