-- The size of the datagrams that are sent.
use Rattle.std.specs.Prelude.{ℕ, ◌+◌, ◌*◌}
use Rattle.segment_codec.specs.Limits.{most_text, most_option_words}

-- the most bytes: both headers, the most options that a TCP header carries, and the text
abbrev pub most_datagram : ℕ
most_datagram = 40 + 4 * most_option_words + most_text
