-- The control bits of a segment (RFC 9293, 3.1).
use Rattle.std.specs.Prelude.{ℕ, Bool, bit_and, ◌==◌}
use Rattle.segment_codec.specs.declared.packet.Seg.{Seg}

abbrev pub fin : ℕ
fin = 1

abbrev pub syn : ℕ
syn = 2

abbrev pub rst : ℕ
rst = 4

abbrev pub psh : ℕ
psh = 8

abbrev pub ack : ℕ
ack = 16

abbrev pub has_fin : Seg → Bool
has_fin s = bit_and s.flags fin == fin

abbrev pub has_syn : Seg → Bool
has_syn s = bit_and s.flags syn == syn

abbrev pub has_rst : Seg → Bool
has_rst s = bit_and s.flags rst == rst

abbrev pub has_ack : Seg → Bool
has_ack s = bit_and s.flags ack == ack
