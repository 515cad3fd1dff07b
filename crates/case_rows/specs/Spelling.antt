-- The bytes that the words of a row spell.
use Rattle.std.specs.Prelude.{◌≡◌, ℕ, ◌+◌, ◌/◌, ◌%◌, ◌==◌, nat_lt, if◌then◌else◌, ◌⊎◌, List, [], ◌∷◌, ◌++◌, Ok, replicate}
use Rattle.std.specs.List.{concat, flat_map, slice_split}
use Rattle.std.specs.Str.Parse.{ParsesUnsigned}

-- the hexadecimal digit of a number below 16
abbrev pub hex_digit : ℕ → ℕ
hex_digit n = if nat_lt n 10 then 48 + n else 87 + n

-- bytes in hexadecimal, two digits for each
abbrev pub hex : List ℕ → List ℕ
hex bytes = flat_map (λ b. hex_digit (b / 16) ∷ hex_digit (b % 16) ∷ []) bytes

-- a word is bytes in hexadecimal; or behind a number below 2^32 and a `*` (42) those that stand so many times
abbrev pub Spells : List ℕ → List ℕ → Type 0
Spells word bytes = (word ≡ hex bytes)
    ⊎ ((often : ℕ) × (before one : List ℕ) × (word ≡ before ++ 42 ∷ hex one) × ParsesUnsigned {E = Unit {0}} 32 10 before (Ok often) × (bytes ≡ concat (replicate often one)))

abbrev pub AllSpell : List (List ℕ) → List ℕ → Type 0
AllSpell [] bytes = bytes ≡ []
AllSpell (w ∷ ws) bytes = (one more : List ℕ) × Spells w one × AllSpell ws more × (bytes ≡ one ++ more)

-- the words of a line, with blanks (32) between, one behind another
abbrev pub LineSpells : List ℕ → List ℕ → Type 0
LineSpells line bytes = AllSpell (slice_split (λ b. b == 32) line) bytes
