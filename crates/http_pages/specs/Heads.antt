-- Where the head of a message ends, and its lines (RFC 9112, 2.1 and 2.2).
use Rattle.std.specs.Prelude.{ℕ, ◌-◌, Bool, true, false, not, ◌&&◌, ◌==◌, if◌then◌else◌, List, [], ◌∷◌, length, take, map, slice_index, Option, None, Some, option_map}
use Rattle.std.specs.List.{filter, slice_split}
use Rattle.httparse.specs.Ascii.{line_feed, carriage_return}
use Rattle.httparse.specs.Grammar.{is_token_byte}

abbrev pub is_line_feed : ℕ → Bool
is_line_feed b = b == line_feed

-- a line ends in CR LF, or in LF alone (2.2): what stands before its LF, without a CR behind it
unfoldable pub without_cr : List ℕ → List ℕ
without_cr line = if slice_index line (length line - 1) == carriage_return then take (length line - 1) line else line

abbrev pub is_filled : List ℕ → Bool
is_filled [] = false
is_filled (b ∷ bs) = true

-- the lines of a text, without their ends, but for those that are empty
unfoldable pub lines : List ℕ → List (List ℕ)
lines bytes = filter is_filled (map without_cr (slice_split is_line_feed bytes))

-- what stands behind an empty line at the front
abbrev pub behind_empty_line : List ℕ → Option (List ℕ)
behind_empty_line [] = None
behind_empty_line (b ∷ []) = if b == line_feed then Some [] else None
behind_empty_line (b ∷ c ∷ rest) =
    if b == line_feed then Some (c ∷ rest)
    else (if (b == carriage_return) && (c == line_feed) then Some rest else None)

-- the bytes from the request line on: empty lines before it count for nothing (2.2)
unfoldable pub from_request_line : List ℕ → List ℕ
from_request_line [] = []
from_request_line (b ∷ []) = if b == line_feed then [] else b ∷ []
from_request_line (b ∷ c ∷ rest) =
    if b == line_feed then from_request_line (c ∷ rest)
    else (if (b == carriage_return) && (c == line_feed) then from_request_line rest else b ∷ c ∷ rest)

abbrev pub first_of : Option (List ℕ) → Option (List ℕ) → Option (List ℕ)
first_of None later = later
first_of (Some rest) later = Some rest

-- what stands behind a head, from within its first line on: behind the first empty line (2.1)
unfoldable pub behind_head : List ℕ → Option (List ℕ)
behind_head [] = None
behind_head (b ∷ bytes) = if is_line_feed b then first_of (behind_empty_line bytes) (behind_head bytes) else behind_head bytes

-- how many bytes the head takes, once its empty line has come
abbrev pub head_length : List ℕ → Option ℕ
head_length bytes = option_map (λ rest. length bytes - length rest) (behind_head (from_request_line bytes))

-- the first byte can't begin a method: of a TLS client's hello, for one
abbrev pub begins_badly : List ℕ → Bool
begins_badly [] = false
begins_badly (b ∷ bytes) = not (is_token_byte b) && not (b == carriage_return)
