-- What is set in the header of each datagram that is sent: TTL (RFC 791, 3.1) and DSCP (RFC 2474, 3), as RFC 9293, 3.9.1 asks for.
use Rattle.std.specs.Prelude.{◌≡◌, ℕ, ◌-◌, ◌*◌, ◌/◌, ◌%◌, ◌≤◌, ◌==◌, ◌&&◌, ◌||◌, nat_lt, Bool, true, false, List, length, take, drop, slice_index, slice_set, if◌then◌else◌}
use Rattle.sq_base.specs.InternetSum.{reduced, word_sum}
use Rattle.sq_base.specs.declared.kinds.Link.TheVariants.{RawIp}
use Rattle.sq_base.specs.declared.kinds.Tuple.{Tuple}
use Rattle.segment_codec.specs.Packet.{packet_in}
use Rattle.segment_codec.specs.SegmentBytes.{segment_bytes}
use Rattle.segment_codec.specs.SentIsRead.{Fits, seg_sent, text_in}
use Rattle.segment_codec.specs.declared.packet.Packet.TheVariants.{Segment}
use Rattle.segment_codec.specs.declared.packet.Reply.{Reply}
use Rattle.live_server.specs.declared.marking.Marking.{Marking}

-- TTL, which is 64 where none is set
abbrev pub hops : Marking → ℕ
hops m = if m.ttl == 0 then 64 else m.ttl

-- the second octet: DSCP in its six high bits, and 0 in the two of ECN
abbrev pub traffic : Marking → ℕ
traffic m = m.dscp % 64 * 4

-- so each datagram has it anyway
abbrev pub is_plain : Marking → Bool
is_plain m = (hops m == 64) && (traffic m == 0)

-- the header's sum stands in the eleventh octet and the twelfth
abbrev pub with_sum : ℕ → List ℕ → List ℕ
with_sum sum bytes = slice_set (slice_set bytes 10 (sum / 256)) 11 (sum % 256)

-- both stand in the second and in the ninth; the sum is still 0
abbrev pub blank : Marking → List ℕ → List ℕ
blank m bytes = with_sum 0 (slice_set (slice_set bytes 1 (traffic m)) 8 (hops m))

-- and then the complement of the sum with its own field 0. The header has no options
abbrev pub with_own_sum : List ℕ → List ℕ
with_own_sum bytes = with_sum (0xffff - reduced (word_sum (take 20 bytes))) bytes

-- a datagram is marked. What is no whole header stays
unfoldable pub marked_bytes : Marking → List ℕ → List ℕ
marked_bytes m bytes = if is_plain m || nat_lt (length bytes) 20 then bytes else with_own_sum (blank m bytes)

-- What is marked is read: the sums of a segment that is sent hold then too, its fields and its text are the same, and TTL and DSCP are those that
-- were set
pub record IsReadMarked (m : Marking) (t : Tuple) (r : Reply) : Type 0 where
  pub fields : packet_in RawIp (marked_bytes m (segment_bytes t r)) true ≡ Segment (seg_sent t r)
  pub text : text_in (seg_sent t r) (marked_bytes m (segment_bytes t r)) ≡ r.text
  pub ttl : slice_index (marked_bytes m (segment_bytes t r)) 8 ≡ hops m
  pub dscp : slice_index (marked_bytes m (segment_bytes t r)) 1 / 4 ≡ m.dscp % 64
  pub ecn : slice_index (marked_bytes m (segment_bytes t r)) 1 % 4 ≡ 0

abbrev pub MarkedIsRead : Type 0
MarkedIsRead = (m : Marking) (t : Tuple) (r : Reply) → Fits t r → IsReadMarked m t r

-- So it is of any other datagram: where it is marked, the sum of its header holds, and what stands behind the header stays, as its length
pub record IsMarked (m : Marking) (bytes : List ℕ) : Type 0 where
  pub sum : is_plain m ≡ false → reduced (word_sum (take 20 (marked_bytes m bytes))) ≡ 0xffff
  pub rest : drop 20 (marked_bytes m bytes) ≡ drop 20 bytes
  pub size : length (marked_bytes m bytes) ≡ length bytes

abbrev pub MarksAHeader : Type 0
MarksAHeader = (m : Marking) (bytes : List ℕ) → 20 ≤ length bytes → IsMarked m bytes
