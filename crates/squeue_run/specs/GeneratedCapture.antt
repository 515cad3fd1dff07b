-- The capture that is made from a number: 1,000 connections with 100 segments each, one of each connection in a round.
use Rattle.std.specs.Prelude.{◌≡◌, ℕ, suc, zero, ◌+◌, ◌*◌, ◌/◌, ◌%◌, ◌^◌, ◌==◌, nat_le, ◌&&◌, List, ◌∷◌, ◌++◌, length, map, sum_by, if◌then◌else◌}
use Rattle.std.specs.List.{flat_map, range_with_len}
use Rattle.byteorder.specs.Endian.{little_bytes}
use Rattle.sq_base.specs.declared.kinds.Tuple.{Tuple}
use Rattle.segment_codec.specs.declared.packet.Reply.{Reply}
use Rattle.segment_codec.specs.PlainSegments.{plain}
use Rattle.segment_codec.specs.SegmentBytes.{segment_bytes}
use Rattle.capture_reader.specs.declared.fault.CaptureFault.{CaptureFault}
use Rattle.capture_reader.specs.declared.fault.CaptureFault.TheVariants as fault
use Rattle.capture_reader.specs.CaptureFile.{Contents, Captured}
use Rattle.capture_reader.specs.Outcome.{ParseFails}

-- the numbers below n
abbrev pub below : ℕ → List ℕ
below n = range_with_len 0 n

-- a linear congruential sequence of 64 bits, from the number on
abbrev pub next_state : ℕ → ℕ
next_state x = (x * 6364136223846793005 + 1442695040888963407) % 2 ^ 64

unfoldable pub state_at : ℕ → ℕ → ℕ
state_at number zero = number
state_at number (suc k) = next_state (state_at number k)

-- draw k, from 0: the upper half
unfoldable pub draw : ℕ → ℕ → ℕ
draw number k = state_at number (suc k) / 2 ^ 32

-- first the sequence numbers are drawn, both of a connection and then the next connection's
abbrev pub isn : ℕ → ℕ → ℕ
isn number c = draw number (2 * c)

abbrev pub iss : ℕ → ℕ → ℕ
iss number c = draw number (2 * c + 1)

-- how many bytes of text connection c sends in a round
unfoldable pub text_len : ℕ → ℕ → ℕ
text_len round c = if nat_le 2 round && nat_le round 97 then 1 + (c + round) % 96 else 0

-- and in all rounds before one
unfoldable pub sent_before : ℕ → ℕ → ℕ
sent_before round c = sum_by (λ k. text_len k c) (below round)

-- how many bytes of text stand in a round's records before that of connection c, and in all rounds before one
unfoldable pub round_text : ℕ → ℕ → ℕ
round_text round c = sum_by (λ d. text_len round d) (below c)

unfoldable pub text_before : ℕ → ℕ
text_before round = sum_by (λ k. round_text k 1000) (below round)

-- then the bytes of text are drawn, in the order of the file
unfoldable pub drawn_text : ℕ → ℕ → ℕ → List ℕ
drawn_text number from len = map (λ i. draw number (from + i) % 256) (below len)

unfoldable pub text_at : ℕ → ℕ → ℕ → List ℕ
text_at number round c = drawn_text number (2000 + text_before round + round_text round c) (text_len round c)

-- what comes back of n bytes: an even connection's service is echo, an odd one's discard
abbrev pub echoed : ℕ → ℕ → ℕ
echoed c n = if c % 2 == 0 then n else 0

abbrev pub port_of : ℕ → ℕ
port_of c = if c % 2 == 0 then 7 else 9

-- a segment's flags, sequence number and acknowledgement number
pub record Numbers : Type 0 where
  pub flags : ℕ
  pub seq : ℕ
  pub ack : ℕ

-- by round: SYN, ACK, text with PSH and ACK, FIN and ACK, ACK
unfoldable pub numbers_at : ℕ → ℕ → ℕ → Numbers
numbers_at number round c =
    if round == 0 then record { flags = 2; seq = isn number c; ack = 0 }
    else if round == 1 then record { flags = 16; seq = (isn number c + 1) % 2 ^ 32; ack = (iss number c + 1) % 2 ^ 32 }
    else if nat_le round 97
    then record { flags = 24; seq = (isn number c + 1 + sent_before round c) % 2 ^ 32; ack = (iss number c + 1 + echoed c (sent_before round c)) % 2 ^ 32 }
    else if round == 98 then record { flags = 17; seq = (isn number c + 4657) % 2 ^ 32; ack = (iss number c + 1 + echoed c 4656) % 2 ^ 32 }
    else record { flags = 16; seq = (isn number c + 4658) % 2 ^ 32; ack = (iss number c + 2 + echoed c 4656) % 2 ^ 32 }

-- the sender is 10.1.0.0 and c on, port 40000, the receiver 10.0.0.2
abbrev pub ends_of : ℕ → Tuple
ends_of c = record { client = record { 0 = 0x0a000002 }; client_port = port_of c; server = record { 0 = 0x0a010000 + c }; server_port = 40000 }

unfoldable pub segment_at : ℕ → ℕ → ℕ → Reply
segment_at number round c =
    plain (10 * (1000 * round + c)) (numbers_at number round c).flags (numbers_at number round c).seq (numbers_at number round c).ack 65535
    (text_at number round c)

-- a record of this time: seconds, microseconds, captured length, original length, body
unfoldable pub record_of : ℕ → List ℕ → List ℕ
record_of at body = little_bytes 4 (at / 1000000) ++ (little_bytes 4 (at % 1000000) ++ (little_bytes 4 (length body) ++ (little_bytes 4 (length body) ++ body)))

unfoldable pub record_at : ℕ → ℕ → ℕ → List ℕ
record_at number round c = record_of (10 * (1000 * round + c)) (segment_bytes (ends_of c) (segment_at number round c))

-- the records of a round before that of connection c, and those of all rounds before one
unfoldable pub round_before : ℕ → ℕ → ℕ → List ℕ
round_before number round c = flat_map (record_at number round) (below c)

unfoldable pub rounds_before : ℕ → ℕ → List ℕ
rounds_before number round = flat_map (λ k. round_before number k 1000) (below round)

-- little-endian, microseconds, version 2.4, snapshot length 262144, link 101
unfoldable pub file_header : List ℕ
file_header =
    little_bytes 4 0xa1b2_c3d4 ++ (little_bytes 2 2 ++ (little_bytes 2 4
    ++ (0 ∷ 0 ∷ 0 ∷ 0 ∷ 0 ∷ 0 ∷ 0 ∷ 0 ∷ (little_bytes 4 262144 ++ little_bytes 4 101))))

unfoldable pub generated : ℕ → List ℕ
generated number = file_header ++ rounds_before number 100

-- the bytes are a capture
abbrev pub IsAccepted : List ℕ → Type 0
IsAccepted bytes = (contents : Contents) × Captured bytes contents

-- a reader refuses them only where memory is missing
abbrev pub IsUnrefused : List ℕ → Type 0
IsUnrefused bytes = (f : CaptureFault) → ParseFails bytes f → f ≡ fault.NoMemory
