-- The sizes of a datagram (RFC 791, 3.1; RFC 768).
use Rattle.std.specs.Prelude.{ℕ, ◌-◌}

-- the bytes of an IPv4 header without options, and of a UDP header
abbrev pub ip_header_size : ℕ
ip_header_size = 20

abbrev pub udp_header_size : ℕ
udp_header_size = 8

-- the most bytes of a datagram
abbrev pub most_total : ℕ
most_total = 65535

-- the most bytes of a UDP header with its text, and of a text
abbrev pub most_length : ℕ
most_length = most_total - ip_header_size

abbrev pub most_text : ℕ
most_text = most_length - udp_header_size
