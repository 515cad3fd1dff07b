-- The options of a TCP header (RFC 9293, 3.2; the window scale: RFC 7323, 2.2): what they say, read from bytes and written to bytes.
use Rattle.std.specs.Prelude.{ℕ, ◌-◌, ◌<◌, ◌≡◌, ◌^◌, ◌==◌, nat_lt, ◌&&◌, ◌||◌, not, Bool, List, [], ◌∷◌, ◌++◌, length, take}
use Rattle.std.specs.Prelude.{Option, None, Some, IfSome, option_map, find, suc, zero, if◌then◌else◌}
use Rattle.byteorder.specs.Endian.{big_bytes}
use Rattle.segment_codec.specs.Places.{byte, word}
use Rattle.segment_codec.specs.declared.options.Options.{Options}

-- a segment without options
abbrev pub no_options : Options
no_options = record { mss = None; scale = None }

-- the values fit the bytes that carry them
pub record AreWritable (o : Options) : Type 0 where
  pub mss : IfSome o.mss (λ n. n < 2 ^ 16)
  pub scale : IfSome o.scale (λ n. n < 2 ^ 8)

-- a word of four bytes, where there is one
abbrev pub word_bytes : Option ℕ → List ℕ
word_bytes None = []
word_bytes (Some w) = big_bytes 4 w

-- Reading: the walk over the bytes

-- how many bytes the first option takes: kind 1 is one byte, and any other kind has a length byte that counts the whole option
abbrev pub option_size : List ℕ → ℕ
option_size bytes = if byte bytes 0 == 1 then 1 else byte bytes 1

-- the length byte is missing, is below 2, or reaches past the end
abbrev pub is_broken : List ℕ → Bool
is_broken bytes = nat_lt (length bytes) 2 || (nat_lt (byte bytes 1) 2 || nat_lt (length bytes) (byte bytes 1))

-- no option begins here: no byte is left, or kind 0 ends the options, or this one is broken
abbrev pub is_end : List ℕ → Bool
is_end bytes = (length bytes == 0) || ((byte bytes 0 == 0) || (not (byte bytes 0 == 1) && is_broken bytes))

-- the options, in order, behind so many bytes that belong to the option before
abbrev pub options_behind : ℕ → List ℕ → List (List ℕ)
options_behind skipped [] = []
options_behind (suc k) (x ∷ xs) = options_behind k xs
options_behind zero (x ∷ xs) =
    let here = x ∷ xs in
    if is_end here then [] else take (option_size here) here ∷ options_behind (option_size here - 1) xs

unfoldable pub options_in : List ℕ → List (List ℕ)
options_in bytes = options_behind 0 bytes

-- an option of this kind and this length
abbrev pub is_option : ℕ → ℕ → List ℕ → Bool
is_option kind size option = (byte option 0 == kind) && (length option == size)

-- the first of each counts
abbrev pub first_option : ℕ → ℕ → List ℕ → Option (List ℕ)
first_option kind size bytes = find (is_option kind size) (options_in bytes)

-- Each option, read and written

-- the maximum segment size: kind 2 with length 4
unfoldable pub mss_in : List ℕ → Option ℕ
mss_in bytes = option_map (λ option. word option 2) (first_option 2 4 bytes)

abbrev pub mss_bytes : Option ℕ → List ℕ
mss_bytes None = []
mss_bytes (Some mss) = 2 ∷ 4 ∷ big_bytes 2 mss

-- the shift of the window scale: kind 3 with length 3; it is written behind a byte of kind 1, which fills four
unfoldable pub scale_in : List ℕ → Option ℕ
scale_in bytes = option_map (λ option. byte option 2) (first_option 3 3 bytes)

abbrev pub scale_bytes : Option ℕ → List ℕ
scale_bytes None = []
scale_bytes (Some shift) = 1 ∷ 3 ∷ 3 ∷ shift ∷ []

-- All of them

unfoldable pub options_read : List ℕ → Options
options_read bytes = record { mss = mss_in bytes; scale = scale_in bytes }

abbrev pub option_bytes : Options → List ℕ
option_bytes o = mss_bytes o.mss ++ scale_bytes o.scale

-- what is written is read again
abbrev pub OptionsAreReadAgain : Type 0
OptionsAreReadAgain = (o : Options) → AreWritable o → options_read (option_bytes o) ≡ o
