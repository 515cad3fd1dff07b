-- The initial sequence number of a connection (RFC 6528, 3).
use Rattle.std.specs.Prelude.{ℕ, ◌+◌, ◌/◌, ◌%◌, ◌^◌, List, ◌++◌, if◌then◌else◌}
use Rattle.byteorder.specs.Endian.{big_bytes, big_number}
use Rattle.sha2.specs.Sha256.{sha256}
use Rattle.segment_codec.specs.ControlBits.{has_syn}
use Rattle.segment_codec.specs.Refusal.{tuple_of}
use Rattle.segment_codec.specs.declared.packet.Seg.{Seg}
use Rattle.sq_base.specs.declared.kinds.Tuple.{Tuple}

-- F(localip, localport, remoteip, remoteport, secretkey): the first four bytes of the SHA-256 of the secret and the two ends
unfoldable pub ends_hash : List ℕ → Tuple → ℕ
ends_hash secret t =
    big_number 4 (sha256 (secret ++ big_bytes 4 t.server.0 ++ big_bytes 2 t.server_port ++ big_bytes 4 t.client.0 ++ big_bytes 2 t.client_port))

-- ISN = M + F, where M counts every four microseconds
unfoldable pub initial_number : List ℕ → ℕ → Tuple → ℕ
initial_number secret now t = (now / 4 + ends_hash secret t) % 2 ^ 32

-- a segment without SYN opens nothing, and needs none
abbrev pub number_for : List ℕ → ℕ → Seg → ℕ
number_for secret now s = if has_syn s then initial_number secret now (tuple_of s) else 0
