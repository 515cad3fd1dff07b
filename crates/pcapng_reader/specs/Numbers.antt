-- The numbers of a section, in its byte order (draft-ietf-opsawg-pcapng, section 4.1).
use Rattle.std.specs.Prelude.{ℕ, ◌+◌, ◌*◌, ◌/◌, ◌==◌, List, Option, None, Some, if◌then◌else◌}
use Rattle.byteorder.specs.Endian.{big_number, little_number}
use Rattle.pcapng_reader.specs.declared.order.Order.{Order}
use Rattle.pcapng_reader.specs.declared.order.Order.TheVariants as order

-- the number in the first n bytes
unfoldable pub number : Order → ℕ → List ℕ → ℕ
number order.Big n bytes = big_number n bytes
number order.Little n bytes = little_number n bytes

-- the order that the byte-order magic names, its four bytes read high first
abbrev pub order_of : ℕ → Option Order
order_of magic = if magic == 0x1a2b_3c4d then Some order.Big else if magic == 0x4d3c_2b1a then Some order.Little else None

-- a length with the bytes that fill it up to a multiple of four
abbrev pub padded : ℕ → ℕ
padded n = (n + 3) / 4 * 4
