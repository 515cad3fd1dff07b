use Rattle.std.proofs.Common.{◌≡◌, ℕ, ◌+◌, ◌<◌, length, get_or}
use Rattle.segment_codec.specs.declared.packet.Packet.{Packet}
use Rattle.conn_classifier.specs.Connections.{decoded}
use Rattle.conn_classifier.proofs.decoding.decode_from.Given as goal

abbrev pub invariant-loop-k : goal.invariant-loop-k
invariant-loop-k l =
    (length l.places ≡ length l.initial.places) × ((j : ℕ) (d : Packet) → j < l.k → get_or l.places j d ≡ get_or (decoded l.capture l.verify) (l.at + j) d)
