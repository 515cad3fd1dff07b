-- The fields at the front of a text.
use Rattle.std.specs.Prelude.{◌≡◌, ℕ, Bool, true, not, List, [], ◌∷◌, ◌++◌}
use Rattle.std.specs.Char.{is_ascii_digit}
use Rattle.std.specs.Fmt.{decimal}

-- the text doesn't go on with a digit
abbrev pub ends_number : List ℕ → Bool
ends_number [] = true
ends_number (b ∷ bs) = not (is_ascii_digit b)

-- the text begins with this number, all digits of it, and this stands behind it
pub record BeginsWithNumber (text : List ℕ) (n : ℕ) (rest : List ℕ) : Type 0 where
  pub joined : text ≡ decimal n ++ rest
  pub whole : ends_number rest ≡ true
