-- At which squeue a connection is at home when a feed of it comes, and how often it leaves one.
use Rattle.std.specs.Prelude.{ℕ, ◌+◌, ◌-◌, ◌/◌, ◌%◌, ◌==◌, ◌&&◌, not, Bool, length, filter, if◌then◌else◌}
use Rattle.std.specs.List.{range_with_len}

-- the home of connection c at its feed n: of so many squeues the next one after each `spread` feeds, and always the first one where that is 0
abbrev pub home : ℕ → ℕ → ℕ → ℕ → ℕ
home squeues spread c n = if spread == 0 then c % squeues else (c + n / spread) % squeues

-- whether connection c leaves squeue k between its feed n and the next one
abbrev pub leaves_after : ℕ → ℕ → ℕ → ℕ → ℕ → Bool
leaves_after squeues spread k c n = (home squeues spread c n == k) && not (home squeues spread c (n + 1) == k)

-- how often connection c, with so many feeds, leaves squeue k
abbrev pub times_leaving : ℕ → ℕ → ℕ → ℕ → ℕ → ℕ
times_leaving squeues spread k c feeds = length (filter (leaves_after squeues spread k c) (range_with_len 0 (feeds - 1)))
