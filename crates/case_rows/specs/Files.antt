-- The rows that a file has.
use Rattle.std.specs.Prelude.{ℕ, ◌+◌, ◌==◌, ◌&&◌, ◌||◌, true, not, Bool, if◌then◌else◌, Option, None, Some, is_some, unwrap_or, List, [], ◌∷◌, ◌++◌, codes, drop, length, map, nat_eq, slice_index, take}
use Rattle.std.specs.List.{flat_map, list_all, list_any, position_or_len, starts_with}
use Rattle.std.specs.Str.{bytes_eq}
use Rattle.std.specs.Str.Lines.{lines}
use Rattle.case_rows.specs.Words.{behind_word, first_word}
use Rattle.case_rows.specs.declared.reading.Reader.{Reader}
use Rattle.case_rows.specs.declared.reading.Said.{Said}
use Rattle.case_rows.specs.declared.rows.Field.{Field}
use Rattle.case_rows.specs.declared.rows.Row.{Row}

-- a line and its number
abbrev pub Numbered : Type 0
Numbered = ℕ × List ℕ

abbrev pub numbered : Said → Numbered
numbered l = (l.at, l.text.now)

-- lines with a name
abbrev pub Named : Type 0
Named = List ℕ × List (List ℕ)

abbrev pub named_of : Field → Named
named_of f = (f.name.now, map (λ l. l.now) f.lines.items)

-- a row's name, the number of its line, and its fields
abbrev pub RowText : Type 0
RowText = List ℕ × (ℕ × List Named)

abbrev pub row_of : Row → RowText
row_of r = (r.name.now, (r.at, map named_of r.fields.items))

-- the lines of a name
abbrev pub lines_of : List Named → List ℕ → Option (List (List ℕ))
lines_of [] name = None
lines_of (f ∷ fs) name = if bytes_eq f.0 name then Some f.1 else lines_of fs name

-- the lines that say something, numbered from here: they aren't empty, and don't begin with `#` (35)
abbrev pub said : ℕ → List (List ℕ) → List Numbered
said at [] = []
said at (l ∷ ls) = if length l == 0 || slice_index l 0 == 35 then said (at + 1) ls else (at, l) ∷ said (at + 1) ls

-- each element that passes, with those behind it up to the next that passes
abbrev pub groups : {X : Type 0} → (X → Bool) → List X → List (X × List X)
groups p [] = []
groups p (x ∷ xs) = if p x then (x, take (position_or_len p xs) xs) ∷ groups p xs else groups p xs

-- a line begins a row or a part; it is a further line of a field or a part, indented by four blanks, or else it begins a field
abbrev pub is_row : List ℕ → Bool
is_row l = bytes_eq (first_word l) (codes "row")

abbrev pub is_part : List ℕ → Bool
is_part l = bytes_eq (first_word l) (codes "part")

abbrev pub begins : Numbered → Bool
begins l = is_row l.1 || is_part l.1

abbrev pub is_more : List ℕ → Bool
is_more l = starts_with nat_eq l (codes "    ")

abbrev pub begins_field : Numbered → Bool
begins_field l = not (is_more l.1)

-- what a line stands for: itself, or behind `@` (64) the lines of the part with this name
abbrev pub in_full : List Named → List ℕ → List (List ℕ)
in_full parts l = if slice_index l 0 == 64 then unwrap_or (lines_of parts (drop 1 l)) [] else l ∷ []

abbrev pub more_in_full : List Named → List Numbered → List (List ℕ)
more_in_full parts ls = flat_map (λ l. in_full parts (drop 4 l.1)) ls

-- the field that a line begins, with its further lines; what stands behind its name is its first line
abbrev pub first_line : List Named → List ℕ → List (List ℕ)
first_line parts text = if length text == 0 then [] else in_full parts text

abbrev pub field_in : List Named → Numbered × List Numbered → Named
field_in parts g = (first_word g.0.1, first_line parts (behind_word g.0.1) ++ more_in_full parts g.1)

abbrev pub fields_in : List Named → List Numbered → List Named
fields_in parts ls = map (field_in parts) (groups begins_field ls)

-- the rows, where these parts stand above
abbrev pub rows_in : List Named → List (Numbered × List Numbered) → List RowText
rows_in parts [] = []
rows_in parts (g ∷ gs) = if is_row g.0.1 then (behind_word g.0.1, (g.0.0, fields_in parts g.1)) ∷ rows_in parts gs
    else rows_in (parts ++ (behind_word g.0.1, more_in_full parts g.1) ∷ []) gs

-- those that were read, and those of the lines that weren't
abbrev pub to_come : Reader → List Numbered → List RowText
to_come r ls = map row_of r.rows.items ++ rows_in (map named_of r.parts.items) (groups begins ls)

-- a line may stand there: if it is `@NAME`, a part above has the name
abbrev pub stands : List Named → List ℕ → Bool
stands parts l = not (slice_index l 0 == 64) || is_some (lines_of parts (drop 1 l))

-- a blank (32) or a tab (9) begins a line
abbrev pub is_indented : List ℕ → Bool
is_indented l = slice_index l 0 == 32 || slice_index l 0 == 9

-- nothing stands before the first that passes
abbrev pub starts : {X : Type 0} → (X → Bool) → List X → Bool
starts p [] = true
starts p (x ∷ xs) = p x

-- further lines; fields behind these, of which none has the name of another; and the lines of a row
abbrev pub fit_more : List Named → List Numbered → Bool
fit_more parts ls = list_all (λ l. is_more l.1 && stands parts (drop 4 l.1)) ls

abbrev pub fit_fields : List Named → List Named → List (Numbered × List Numbered) → Bool
fit_fields parts had [] = true
fit_fields parts had (g ∷ gs) = (not (is_indented g.0.1) && not (is_some (lines_of had (first_word g.0.1)))) && ((stands parts (behind_word g.0.1) && fit_more parts g.1) && fit_fields parts (had ++ field_in parts g ∷ []) gs)

abbrev pub fit_section : List Named → List Numbered → Bool
fit_section parts ls = starts begins_field ls && fit_fields parts [] (groups begins_field ls)

-- rows and parts have names, which none above has
abbrev pub is_new : List ℕ → Bool → Bool
is_new name taken = not (length name == 0) && not taken

abbrev pub fit_rows : List Named → List (List ℕ) → List (Numbered × List Numbered) → Bool
fit_rows parts names [] = true
fit_rows parts names (g ∷ gs) = if is_row g.0.1 then is_new (behind_word g.0.1) (list_any (λ n. bytes_eq n (behind_word g.0.1)) names) && (fit_section parts g.1 && fit_rows parts (names ++ behind_word g.0.1 ∷ []) gs)
    else is_new (behind_word g.0.1) (is_some (lines_of parts (behind_word g.0.1))) && (fit_more parts g.1 && fit_rows (parts ++ (behind_word g.0.1, more_in_full parts g.1) ∷ []) names gs)

abbrev pub fit_to_come : Reader → List Numbered → Bool
fit_to_come r ls = fit_rows (map named_of r.parts.items) (map (λ row. row.name.now) r.rows.items) (groups begins ls)

-- a text is a file of rows
abbrev pub is_file : List ℕ → Bool
is_file text = let ls = said 1 (lines text) in starts begins ls && fit_rows [] [] (groups begins ls)

abbrev pub rows_of : List ℕ → List RowText
rows_of text = rows_in [] (groups begins (said 1 (lines text)))
