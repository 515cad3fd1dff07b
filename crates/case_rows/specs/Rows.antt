-- What a row says by its fields.
use Rattle.std.specs.Prelude.{◌≡◌, ℕ, ◌==◌, ◌⊎◌, Bool, Option, None, Some, Ok, List, [], ◌∷◌, codes, if◌then◌else◌}
use Rattle.std.specs.Borrow.{Bor}
use Rattle.std.specs.List.{list_any, slice_split}
use Rattle.std.specs.Str.{bytes_eq}
use Rattle.std.specs.Str.Parse.{ParsesUnsigned}
use Rattle.case_rows.specs.declared.rows.Field.{Field}

abbrev pub Line : Type 0
Line = Bor (List ℕ)

-- the lines of the field with a name
abbrev pub lines_named : List Field → List ℕ → Option (List Line)
lines_named [] name = None
lines_named (f ∷ fs) name = if bytes_eq f.name.now name then Some f.lines.items else lines_named fs name

-- a name is among these
abbrev pub is_among : List Line → List ℕ → Bool
is_among known name = list_any (λ k. bytes_eq k.now name) known

-- the only line of a field, or another text where there is no such field
abbrev pub only_line : Option (List Line) → List ℕ → Option (List ℕ)
only_line None other = Some other
only_line (Some []) other = None
only_line (Some (l ∷ [])) other = Some l.now
only_line (Some (l ∷ m ∷ ls)) other = None

-- a text writes a number below 2^64
abbrev pub Writes : List ℕ → ℕ → Type 0
Writes text n = ParsesUnsigned {E = Unit {0}} 64 10 text (Ok n)

-- a field is one line that writes a number; or there is no such field, and it is another one
abbrev pub IsNumber : Option (List Line) → ℕ → ℕ → Type 0
IsNumber None other n = n ≡ other
IsNumber (Some ls) other n = (text : List ℕ) × (only_line (Some ls) [] ≡ Some text) × Writes text n

-- texts write numbers, one for one
abbrev pub WriteAll : List (List ℕ) → List ℕ → Type 0
WriteAll [] [] = Unit {0}
WriteAll [] (n ∷ ns) = ⊥
WriteAll (t ∷ ts) [] = ⊥
WriteAll (t ∷ ts) (n ∷ ns) = Writes t n × WriteAll ts ns

-- a field is one line of numbers between blanks; or it has none
abbrev pub AreNumbers : Option (List Line) → List ℕ → Type 0
AreNumbers field ns = (text : List ℕ) × (only_line field [] ≡ Some text)
    × (((text ≡ []) × (ns ≡ [])) ⊎ WriteAll (slice_split (λ b. b == 32) text) ns)

-- what stands between the words of a line: a bar where it has any, else a blank
abbrev pub separator_of : List ℕ → ℕ
separator_of line = if list_any (λ b. b == 124) line then 124 else 32

-- its words; `none` stands for no words
abbrev pub words_in : List ℕ → List (List ℕ)
words_in line = if bytes_eq line (codes "none") then [] else slice_split (λ b. b == separator_of line) line
