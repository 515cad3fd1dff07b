-- Forms of lines: a text with blanks, each written #, in which numbers below 2^32 stand in decimal.
use Rattle.std.specs.Prelude.{ℕ, ◌+◌, ◌^◌, ◌<◌, ◌==◌, Bool, true, false, not, ◌&&◌, ◌||◌, if◌then◌else◌, List, [], ◌∷◌, ◌++◌}
use Rattle.std.specs.Char.{is_ascii_digit}
use Rattle.std.specs.Fmt.{decimal}

-- a byte that is a blank
abbrev pub is_blank : ℕ → Bool
is_blank b = b == 35

-- the form with these numbers in its blanks, in order
abbrev pub filled : List ℕ → List ℕ → List ℕ
filled [] ns = []
filled (b ∷ form) [] = b ∷ filled form []
filled (b ∷ form) (n ∷ ns) = if is_blank b then decimal n ++ filled form ns else b ∷ filled form (n ∷ ns)

abbrev pub blank_count : List ℕ → ℕ
blank_count [] = 0
blank_count (b ∷ form) = (if is_blank b then 1 else 0) + blank_count form

-- numbers that may stand in blanks
abbrev pub AreSmall : List ℕ → Type 0
AreSmall [] = Unit {0}
AreSmall (n ∷ ns) = (n < 2 ^ 32) × AreSmall ns

-- the form goes on with a byte that ends a number
abbrev pub ends_blank : List ℕ → Bool
ends_blank [] = false
ends_blank (b ∷ form) = not (is_ascii_digit b) && not (is_blank b)

-- behind each blank stands such a byte
abbrev pub is_form : List ℕ → Bool
is_form [] = true
is_form (b ∷ form) = (not (is_blank b) || ends_blank form) && is_form form
