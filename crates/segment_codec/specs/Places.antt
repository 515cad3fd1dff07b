-- Big-endian numbers at the places of a packet.
use Rattle.std.specs.Prelude.{ℕ, ◌+◌, ◌*◌, ◌/◌, ◌%◌, List, slice_index}

abbrev pub byte : List ℕ → ℕ → ℕ
byte bytes at = slice_index bytes at

-- the number in two bytes
unfoldable pub word : List ℕ → ℕ → ℕ
word bytes at = byte bytes at * 256 + byte bytes (at + 1)

-- the number in four bytes
unfoldable pub long : List ℕ → ℕ → ℕ
long bytes at = word bytes at * 65536 + word bytes (at + 2)

-- the upper and the lower half of a byte
abbrev pub high : ℕ → ℕ
high b = b / 16

abbrev pub low : ℕ → ℕ
low b = b % 16
