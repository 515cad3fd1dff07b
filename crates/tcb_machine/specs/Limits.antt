-- The numbers that the rules fix. Changing one here and its constant in the code changes the rule.
use Rattle.std.specs.Prelude.{ℕ, ◌*◌, ◌^◌}
use Rattle.segment_codec.specs.Limits.{most_text}

-- times are in microseconds
abbrev pub second : ℕ
second = 1000000

-- RTO at first, and the longest one (RFC 6298, 2.1 and 2.5)
abbrev pub first_timeout : ℕ
first_timeout = second

abbrev pub longest_timeout : ℕ
longest_timeout = 60 * second

-- retransmissions and probes in a block's life
abbrev pub most_retransmissions : ℕ
most_retransmissions = 64

-- TIME-WAIT: twice the maximum segment lifetime of 2 minutes (RFC 9293, 3.4.2)
abbrev pub time_wait_length : ℕ
time_wait_length = 240 * second

-- the text of a segment that is sent: without the peer's MSS option, and the least and the most with it (RFC 9293, 3.7.1);
-- the most is the MSS that we announce too
abbrev pub default_mss : ℕ
default_mss = 536

abbrev pub least_mss : ℕ
least_mss = 64

abbrev pub most_mss : ℕ
most_mss = most_text

-- the receive space: at first, and the most that is announced without window scale
abbrev pub whole_space : ℕ
whole_space = 1048576

abbrev pub plain_space : ℕ
plain_space = 65535

-- the window scale that we announce, and the most that is taken from the peer (RFC 7323, 2.3)
abbrev pub our_shift : ℕ
our_shift = 5

abbrev pub most_shift : ℕ
most_shift = 14

-- a block takes a segment as long as fewer bytes of each of its streams have come, and a segment takes neither so much further
abbrev pub most_streamed : ℕ
most_streamed = 2 ^ 61

abbrev pub segment_growth : ℕ
segment_growth = 2 ^ 21

-- no block is given a later time
abbrev pub last_time : ℕ
last_time = 2 ^ 62
