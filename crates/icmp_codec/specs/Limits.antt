-- The sizes of a message in its datagram (RFC 791, 3.1; RFC 792).
use Rattle.std.specs.Prelude.{ℕ, ◌+◌, ◌-◌}

-- the bytes of an IPv4 header without options
abbrev pub ip_header_size : ℕ
ip_header_size = 20

-- type, code and checksum
abbrev pub icmp_header_size : ℕ
icmp_header_size = 4

-- identifier and sequence number: the least that stands behind them
abbrev pub least_rest : ℕ
least_rest = 4

-- the most: a datagram has at most 65,535 bytes
abbrev pub most_rest : ℕ
most_rest = 65535 - (ip_header_size + icmp_header_size)

-- where a message quotes the datagram that it is about, and how many bytes of it at least: its header, and 8 behind that
abbrev pub quote_at : ℕ
quote_at = 8

abbrev pub quoted_size : ℕ
quoted_size = ip_header_size + 8
