-- What is sent is read again.
use Rattle.std.specs.Prelude.{ℕ, List, take, drop, ◌≡◌, ◌+◌, ◌<◌, ◌^◌, ◌≤◌, true, length, All}
use Rattle.sq_base.specs.declared.kinds.Link.TheVariants.{RawIp}
use Rattle.sq_base.specs.declared.kinds.Tuple.{Tuple}
use Rattle.segment_codec.specs.declared.packet.Reply.{Reply}
use Rattle.segment_codec.specs.declared.packet.Seg.{Seg}
use Rattle.segment_codec.specs.declared.packet.Packet.TheVariants as packet
use Rattle.segment_codec.specs.Packet.{packet_in}
use Rattle.segment_codec.specs.SegmentBytes.{segment_bytes}
use Rattle.segment_codec.specs.Options.{AreWritable, option_bytes}
use Rattle.segment_codec.specs.Limits.{most_text}

-- a tuple and a reply whose numbers fit their fields
pub record Fits (t : Tuple) (r : Reply) : Type 0 where
  pub client : t.client.0 < 2 ^ 32
  pub server : t.server.0 < 2 ^ 32
  pub client_port : t.client_port < 2 ^ 16
  pub server_port : t.server_port < 2 ^ 16
  pub seq : r.seq < 2 ^ 32
  pub ack : r.ack < 2 ^ 32
  pub wnd : r.wnd < 2 ^ 16
  pub flags : r.flags < 64
  pub options : AreWritable r.options
  pub text : length r.text ≤ most_text
  pub bytes : All (λ b. b < 256) r.text

-- the segment with its fields, whose text stands behind both headers
abbrev pub seg_sent : Tuple → Reply → Seg
seg_sent t r = record {
  src = t.server;
  src_port = t.server_port;
  dst = t.client;
  dst_port = t.client_port;
  seq = r.seq;
  ack = r.ack;
  flags = r.flags;
  wnd = r.wnd;
  options = r.options;
  text_from = 40 + length (option_bytes r.options);
  text_len = length r.text;
}

-- the text of a segment in a record's bytes
abbrev pub text_in : Seg → List ℕ → List ℕ
text_in s body = take s.text_len (drop s.text_from body)

-- its bytes decode to its own fields, and hold its text where these say
pub record ReadsAgain (t : Tuple) (r : Reply) : Type 0 where
  pub fields : packet_in RawIp (segment_bytes t r) true ≡ packet.Segment (seg_sent t r)
  pub text : text_in (seg_sent t r) (segment_bytes t r) ≡ r.text
