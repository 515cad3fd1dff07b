-- The limits of the application threads and their calls. How many items a connection has at most is a limit of `conn_classifier`.
use Rattle.std.specs.Prelude.{ℕ}

-- how many application threads there are
abbrev pub callers : ℕ
callers = 4

-- the most calls that they make, all together
abbrev pub most_calls : ℕ
most_calls = 1024
