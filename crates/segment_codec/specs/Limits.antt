-- The numbers of the segments that are sent.
use Rattle.std.specs.Prelude.{ℕ}

-- the most bytes of a segment's text: a datagram of 1,500 bytes without both headers (RFC 9293, 3.7.1)
abbrev pub most_text : ℕ
most_text = 1460

-- the most words of four bytes that options take: a header of 60 bytes without its first 20 (RFC 9293, 3.1)
abbrev pub most_option_words : ℕ
most_option_words = 10
