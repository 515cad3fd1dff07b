-- The words of a line.
use Rattle.std.specs.Prelude.{ℕ, ◌^◌, ◌/◌, ◌%◌, ◌==◌, ◌&&◌, nat_lt, if◌then◌else◌, Option, None, Some, List, [], ◌∷◌, codes, length}
use Rattle.std.specs.List.{after_first, before_first, flat_map, list_all, list_any, sum_by}
use Rattle.std.specs.Str.{all_ascii_digits, bytes_eq}
use Rattle.std.specs.Str.Parse.{digits_value, without_leading_plus}

-- the first word of a line, and what stands behind the blank (32) that ends it
abbrev pub first_word : List ℕ → List ℕ
first_word line = before_first (λ b. b == 32) line

abbrev pub behind_word : List ℕ → List ℕ
behind_word line = after_first (λ b. b == 32) line

-- the number below 2^bits that digits write, if they do
abbrev pub number_of : ℕ → List ℕ → Option ℕ
number_of bits digits = if nat_lt 0 (length digits) && (all_ascii_digits digits && nat_lt (digits_value 10 digits) (2 ^ bits)) then Some (digits_value 10 digits) else None

-- that a word writes, in which a plus may come first
abbrev pub number_in : ℕ → List ℕ → Option ℕ
number_in bits word = number_of bits (without_leading_plus word)

-- the control bits of a segment (RFC 9293, 3.1) and the letter of each: F, S, R, P, A, U
abbrev pub letters : List (ℕ × ℕ)
letters = (1, 70) ∷ (2, 83) ∷ (4, 82) ∷ (8, 80) ∷ (16, 65) ∷ (32, 85) ∷ []

-- the control bits that letters name; `-` is none
abbrev pub flags_in : List ℕ → Option ℕ
flags_in word = if bytes_eq word (codes "-") then Some 0 else
    (if list_all (λ c. list_any (λ l. l.1 == c) letters) word then Some (sum_by (λ l. if list_any (λ c. c == l.1) word then l.0 else 0) letters) else None)

-- the letters of control bits
abbrev pub letters_of : ℕ → List ℕ
letters_of flags = if flags == 0 then codes "-" else flat_map (λ l. if flags / l.0 % 2 == 1 then l.1 ∷ [] else []) letters
