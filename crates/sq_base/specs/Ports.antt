-- The well-known ports of the services.
use Rattle.std.specs.Prelude.{ℕ, ◌==◌, ◌||◌, Bool}

-- RFC 862
abbrev pub echo_port : ℕ
echo_port = 7

-- RFC 863
abbrev pub discard_port : ℕ
discard_port = 9

-- RFC 864
abbrev pub chargen_port : ℕ
chargen_port = 19

-- over TCP: echo and discard
abbrev pub is_served_port : ℕ → Bool
is_served_port port = (port == echo_port) || (port == discard_port)

-- over UDP: the same two
abbrev pub is_served_udp_port : ℕ → Bool
is_served_udp_port port = (port == echo_port) || (port == discard_port)
