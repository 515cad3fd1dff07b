-- The bounds of a pack, of a head and of a date.
use Rattle.std.specs.Prelude.{ℕ}

-- the most bytes of a request's head, the empty lines before it counted
abbrev pub most_head : ℕ
most_head = 8192

-- the most pages of a pack, the most bytes of all of it, and of a page's path, media type and tag
abbrev pub most_pages : ℕ
most_pages = 4096

abbrev pub most_pack : ℕ
most_pack = 67108864

abbrev pub most_path : ℕ
most_path = 1024

abbrev pub most_word : ℕ
most_word = 128

-- the last second of the year 9999, from 1970 on: a date of HTTP has a year of four digits
abbrev pub last_second : ℕ
last_second = 253402300799
