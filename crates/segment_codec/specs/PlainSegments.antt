-- Segments without options.
use Rattle.std.specs.Prelude.{ℕ, List}
use Rattle.sq_base.specs.declared.kinds.Tuple.{Tuple}
use Rattle.segment_codec.specs.Options.{no_options}
use Rattle.segment_codec.specs.declared.packet.Reply.{Reply}
use Rattle.segment_codec.specs.declared.packet.Seg.{Seg}

-- one that is sent: time in microseconds, control bits, sequence number, acknowledgement number, window field, text
abbrev pub plain : ℕ → ℕ → ℕ → ℕ → ℕ → List ℕ → Reply
plain at flags seq ack wnd text = record { at = at; flags = flags; seq = seq; ack = ack; wnd = wnd; options = no_options; text = text }

-- one that the tuple's client sent: control bits, sequence number, acknowledgement number, window field, place and length of its text
abbrev pub plain_from : Tuple → ℕ → ℕ → ℕ → ℕ → ℕ → ℕ → Seg
plain_from t flags seq ack wnd text_from text_len = record {
  src = t.client;
  src_port = t.client_port;
  dst = t.server;
  dst_port = t.server_port;
  seq = seq;
  ack = ack;
  flags = flags;
  wnd = wnd;
  options = no_options;
  text_from = text_from;
  text_len = text_len;
}
