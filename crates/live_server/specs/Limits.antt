-- The limits of frames, of datagrams, of challenges, and of connections that aren't heard any more.
use Rattle.std.specs.Prelude.{ℕ}

-- the bytes of a frame before its body
abbrev pub frame_head : ℕ
frame_head = 16

-- the most bytes of a body: the longest IPv4 datagram
abbrev pub most_body : ℕ
most_body = 65535

-- the headers of a segment that is sent with text: IPv4's and TCP's, without options
abbrev pub header_bytes : ℕ
header_bytes = 40

-- a connection sends one challenge in so many microseconds
abbrev pub challenge_interval : ℕ
challenge_interval = 500000

-- a connection is half open for so many: three minutes, the least that is given to a SYN (RFC 9293, 3.8.3)
abbrev pub handshake_limit : ℕ
handshake_limit = 180000000

-- and silent for so many in FIN-WAIT-2
abbrev pub half_closed_limit : ℕ
half_closed_limit = 60000000
