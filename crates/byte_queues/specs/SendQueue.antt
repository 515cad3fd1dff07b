-- The send queue: the bytes that were offered and aren't acknowledged, in order (RFC 9293, 3.8.1).
use Rattle.std.specs.Prelude.{ℕ, ◌-◌, List, length}
use Rattle.byte_queues.specs.Limits.{send_space}

-- how many bytes more may be offered
abbrev pub room_of : List ℕ → ℕ
room_of out = send_space - length out
