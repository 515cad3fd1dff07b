-- How a request is answered.
use Rattle.std.specs.Prelude.{ℕ, ◌≡◌, ◌<◌, ◌^◌, ◌≤◌, List, length, None, Some}
use Rattle.segment_codec.specs.Places.{word}
use Rattle.icmp_codec.specs.Limits.{least_rest, most_rest}
use Rattle.icmp_codec.specs.EchoRequest.{PingOf, ping_in, pong_in}
use Rattle.icmp_codec.specs.EchoReply.{pong_bytes, total_of}

-- a message whose numbers fit their fields
pub record Fits (p : PingOf) : Type 0 where
  pub src : p.src.0 < 2 ^ 32
  pub dst : p.dst.0 < 2 ^ 32
  pub least : least_rest ≤ length p.rest
  pub most : length p.rest ≤ most_rest

-- the same with its ends exchanged
abbrev pub returned : PingOf → PingOf
returned p = record { src = p.dst; dst = p.src; rest = p.rest }

-- the bytes of the reply, all of them, are read as an echo reply with its ends exchanged and the request's rest: so both its sums are right
pub record ReadsAsReply (p : PingOf) : Type 0 where
  pub reply : pong_in (pong_bytes p) ≡ Some (returned p)
  pub size : length (pong_bytes p) ≡ total_of p

-- a reply is no request
abbrev pub IsNoRequest : List ℕ → Type 0
IsNoRequest bytes = ping_in bytes ≡ None

-- what was read from a datagram: its numbers fit, and the reply is as long as the datagram without its padding
pub record IsReadFrom (ip : List ℕ) (p : PingOf) : Type 0 where
  pub fits : Fits p
  pub size : total_of p ≡ word ip 2
