-- The limits of the two queues of a connection.
use Rattle.std.specs.Prelude.{ℕ, ◌^◌}

-- how many runs of bytes may stand above the next one that is wanted
abbrev pub most_runs : ℕ
most_runs = 64

-- how many bytes may be offered and not acknowledged
abbrev pub send_space : ℕ
send_space = 65535

-- each text begins below this position, so that no position passes 64 bits
abbrev pub position_limit : ℕ
position_limit = 2 ^ 62
