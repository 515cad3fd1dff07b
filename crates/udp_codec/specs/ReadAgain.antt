-- What is sent is read again.
use Rattle.std.specs.Prelude.{ℕ, List, take, drop, ◌≡◌, ◌+◌, ◌<◌, ◌^◌, ◌≤◌, length, Some}
use Rattle.sq_base.specs.InternetSum.{word_sum, reduced}
use Rattle.sq_base.specs.declared.kinds.Link.TheVariants.{RawIp}
use Rattle.sq_base.specs.declared.kinds.Tuple.{Tuple}
use Rattle.udp_codec.specs.declared.datagram.Udp.{Udp}
use Rattle.udp_codec.specs.UdpDatagram.{udp_in}
use Rattle.udp_codec.specs.UdpBytes.{udp_bytes, ip_with, ip_sum, udp_with, udp_sum, whole_sum, total_with}
use Rattle.udp_codec.specs.Limits.{ip_header_size, most_text, udp_header_size}

-- a tuple and a text whose numbers fit their fields
pub record Fits (t : Tuple) (text : List ℕ) : Type 0 where
  pub client : t.client.0 < 2 ^ 32
  pub server : t.server.0 < 2 ^ 32
  pub client_port : t.client_port < 2 ^ 16
  pub server_port : t.server_port < 2 ^ 16
  pub few : length text ≤ most_text

-- the datagram with its fields, whose text stands behind both headers
abbrev pub udp_sent : Tuple → List ℕ → Udp
udp_sent t text = record {
  src = t.server;
  src_port = t.server_port;
  dst = t.client;
  dst_port = t.client_port;
  text_from = ip_header_size + udp_header_size;
  text_len = length text;
}

-- the text of a datagram in a record's bytes
abbrev pub text_in : Udp → List ℕ → List ℕ
text_in u body = take u.text_len (drop u.text_from body)

-- its bytes decode to its own fields, and hold its text where these say; both its sums are right
pub record ReadsAgain (t : Tuple) (text : List ℕ) : Type 0 where
  pub fields : udp_in RawIp (udp_bytes t text) ≡ Some (udp_sent t text)
  pub kept : text_in (udp_sent t text) (udp_bytes t text) ≡ text
  pub header : reduced (word_sum (ip_with t (total_with text) (ip_sum t (total_with text)))) ≡ 65535
  pub part : whole_sum t text (udp_with t text (udp_sum t text)) ≡ 65535
