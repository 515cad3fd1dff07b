-- What a row wants of an output.
use Rattle.std.specs.Prelude.{◌≡◌, ◌≢◌, ℕ, ◌+◌, ◌-◌, ◌*◌, ◌%◌, ◌^◌, ◌≤◌, ◌&&◌, ◌||◌, not, if◌then◌else◌, true, false, Bool, is_some, unwrap_or, IfSome, Option, None, Some, List, [], ◌∷◌, ◌++◌, Contains, Ok, codes, drop, length, take}
use Rattle.std.specs.Borrow.{Bor}
use Rattle.std.specs.List.{AllByRecursion, count_by, flat_map, fold, position_or_len, slice_split, sum_by}
use Rattle.std.specs.Str.{bytes_eq}
use Rattle.std.specs.Str.Lines.{lines}
use Rattle.std.specs.Str.Parse.{ParsesUnsigned}
use Rattle.case_rows.specs.Rows.{AreNumbers, Line, Writes, lines_named, only_line}
use Rattle.case_rows.specs.Words.{behind_word, first_word, number_in}
use Rattle.case_rows.specs.declared.rows.Field.{Field}

abbrev pub Lines : Type 0
Lines = Bor (List Line)

-- lines, each with a newline at its end
abbrev pub spelled : List Line → List ℕ
spelled lines = flat_map (λ line. line.now ++ 10 ∷ []) lines

-- an output is one of those that an `or` parts
abbrev pub IsOneOf : List Line → List ℕ → Type 0
IsOneOf lines out = (part : List Line) × Contains (slice_split (λ line. bytes_eq line.now (codes "or")) lines) part × (out ≡ spelled part)

-- a line stands as often in an output as the number before it says
abbrev pub StandsAmong : List ℕ → List (List ℕ) → Type 0
StandsAmong line all = Writes (first_word line) (count_by (λ l. bytes_eq l (behind_word line)) all)

abbrev pub StandsAsOften : List ℕ → List ℕ → Type 0
StandsAsOften line out = StandsAmong line (lines out)

-- how many marks a line `squeue Q marks N` tells of
abbrev pub marks_told : List ℕ → Option ℕ
marks_told line = if bytes_eq (first_word line) (codes "squeue") && bytes_eq (first_word (behind_word (behind_word line))) (codes "marks") then number_in 64 (behind_word (behind_word (behind_word line))) else None

abbrev pub tells_marks : List ℕ → Bool
tells_marks line = is_some (marks_told line)

-- how many these lines tell of, and how many lines of marks there are: from the first line that tells on, all others but `done`
abbrev pub told_in : List (List ℕ) → ℕ
told_in ls = sum_by (λ l. unwrap_or (marks_told l) 0) ls

abbrev pub marks_in : List (List ℕ) → ℕ
marks_in ls = count_by (λ l. not (tells_marks l || bytes_eq l (codes "done"))) (drop (position_or_len (λ l. tells_marks l) ls) ls)

-- an output has at least and at most so many lines of marks, as many as it tells of
pub record HasMarks (least most : ℕ) (out : List ℕ) : Type 0 where
  pub told : told_in (lines out) ≡ marks_in (lines out)
  pub no_fewer : least ≤ marks_in (lines out)
  pub no_more : marks_in (lines out) ≤ most

-- of each byte in turn, at the multiplier of the 64-bit FNV hash, from 0
abbrev pub check_of : List ℕ → ℕ
check_of bytes = fold (λ check byte. (check * 1099511628211 + byte) % 2 ^ 64) 0 bytes

-- an output has the length and the check value that a text says, the latter in hexadecimal
abbrev pub HasSum : List ℕ → List ℕ → Type 0
HasSum text out = Writes (first_word text) (length out)
    × ParsesUnsigned {E = Unit {0}} 64 16 (behind_word text) (Ok (check_of out))

module _ (fields : List Field) where
  abbrev has : List ℕ → Bool
  has name = is_some (lines_named fields name)

  -- what a row says of some lines of the output
  pub record SaysOfLines (out : List ℕ) : Type 0 where
    pub begins : IfSome (lines_named fields (codes "begins")) (λ ls. take (length (spelled ls)) out ≡ spelled ls)
    pub ends : IfSome (lines_named fields (codes "ends")) (λ ls. drop (length out - length (spelled ls)) out ≡ spelled ls)
    pub among : IfSome (lines_named fields (codes "among")) (λ ls. (1 ≤ length ls) × AllByRecursion (λ l. StandsAsOften l.now out) ls)

  -- and of it in numbers
  pub record SaysOfNumbers (out : List ℕ) : Type 0 where
    pub marks : IfSome (lines_named fields (codes "marks")) (λ ls. (least most : ℕ) × AreNumbers (Some ls) (least ∷ most ∷ []) × HasMarks least most out)
    pub sum : IfSome (lines_named fields (codes "sum")) (λ ls. (text : List ℕ) × (only_line (Some ls) [] ≡ Some text) × HasSum text out)

  -- it is said otherwise than by `out`
  abbrev pub says_of_lines : Bool
  says_of_lines = has (codes "begins") || has (codes "ends") || has (codes "among")

  abbrev pub says_of_numbers : Bool
  says_of_numbers = has (codes "marks") || has (codes "sum")

  -- and then nothing else is said of the whole
  pub record SaysNoMore : Type 0 where
    pub out : lines_named fields (codes "out") ≡ None
    pub out_bytes : lines_named fields (codes "out_bytes") ≡ None
    pub each_write : lines_named fields (codes "each_write") ≡ None

  -- the output is one of those that the row wants, or so many bytes of the one
  pub record IsOut (out : List ℕ) (len : ℕ) : Type 0 where
    pub whole : len ≡ 2 ^ 64 - 1 → IsOneOf (unwrap_or (lines_named fields (codes "out")) []) out
    pub front : len ≢ 2 ^ 64 - 1 → out ≡ take len (spelled (unwrap_or (lines_named fields (codes "out")) []))

  pub record WantsOut (out : List ℕ) (len : ℕ) : Type 0 where
    pub of_lines : SaysOfLines out
    pub of_numbers : SaysOfNumbers out
    pub no_more : (says_of_lines || says_of_numbers) ≡ true → SaysNoMore
    pub wanted : (says_of_lines || says_of_numbers) ≡ false → IsOut out len
