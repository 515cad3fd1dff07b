-- The answer to a segment for a connection that isn't there (RFC 9293, 3.10.7.1).
use Rattle.std.specs.Prelude.{ℕ, ◌+◌, ◌%◌, ◌^◌, [], Option, None, Some, if◌then◌else◌}
use Rattle.sq_base.specs.declared.kinds.Tuple.{Tuple}
use Rattle.segment_codec.specs.ControlBits.{ack, has_ack, has_fin, has_rst, has_syn, rst}
use Rattle.segment_codec.specs.PlainSegments.{plain}
use Rattle.segment_codec.specs.declared.packet.Seg.{Seg}
use Rattle.segment_codec.specs.declared.packet.Reply.{Reply}

-- how many sequence numbers it takes: one for each byte of its text, for SYN and for FIN
abbrev pub seg_len : Seg → ℕ
seg_len s = s.text_len + (if has_syn s then 1 else 0) + (if has_fin s then 1 else 0)

abbrev pub reset_with : ℕ → ℕ → ℕ → ℕ → Reply
reset_with at flags seq ack = plain at flags seq ack 0 []

-- a segment with ACK: <SEQ=SEG.ACK><CTL=RST>; without: <SEQ=0><ACK=SEG.SEQ+SEG.LEN><CTL=RST,ACK>
abbrev pub reset_for : ℕ → Seg → Reply
reset_for at s = if has_ack s then reset_with at rst s.ack 0 else reset_with at (rst + ack) 0 ((s.seq + seg_len s) % 2 ^ 32)

-- a reset is answered by nothing
abbrev pub refusal_of : ℕ → Seg → Option Reply
refusal_of at s = if has_rst s then None else Some (reset_for at s)

-- the connection of a segment that its client sent
abbrev pub tuple_of : Seg → Tuple
tuple_of s = record { client = s.src; client_port = s.src_port; server = s.dst; server_port = s.dst_port }
