-- The part of a page that a request wants (RFC 9110, 13.1.5, 14.1 and 14.2).
use Rattle.std.specs.Prelude.{ℕ, ◌+◌, ◌-◌, ◌==◌, nat_le, nat_lt, min, Bool, true, false, ◌&&◌, if◌then◌else◌, List, [], ◌∷◌, codes, bytes_eq, Option, None, Some}
use Rattle.std.specs.List.{list_all, list_any, before_first, after_first}
use Rattle.std.specs.Char.{is_ascii_digit}
use Rattle.std.specs.Str.Parse.{digits_value}
use Rattle.http1.specs.Text.{eq_ignore_case}
use Rattle.http_pages.specs.declared.ranges.Wanted.{Wanted}
use Rattle.http_pages.specs.declared.ranges.Wanted.TheVariants.{Whole, Part, Nothing}
use Rattle.http_pages.specs.Heads.{is_filled}
use Rattle.http_pages.specs.Requests.{values_of}

abbrev pub is_equals : ℕ → Bool
is_equals b = b == 61

abbrev pub is_hyphen : ℕ → Bool
is_hyphen b = b == 45

-- 1*DIGIT, which may be long
abbrev pub number : List ℕ → Option ℕ
number text = if is_filled text && list_all is_ascii_digit text then Some (digits_value 10 text) else None

-- int-range, of a page of so many bytes: the first place has to be one of the page, the last one may be behind its end (14.1.2), and a last
-- one before the first is none (14.1.1)
abbrev pub int_range : ℕ → ℕ → ℕ → Wanted
int_range size first last =
    if nat_le size first then Nothing else (if nat_lt last first then Whole else Part first (min (last + 1) size))

-- suffix-range: so many bytes at the end, or all where there are fewer; 0 bytes can't be had (14.1.2)
abbrev pub suffix_range : ℕ → ℕ → Wanted
suffix_range size count = if count == 0 then Nothing else (if size == 0 then Whole else Part (size - count) size)

abbrev pub by_places : ℕ → Option ℕ → Option ℕ → Wanted
by_places size None last = Whole
by_places size (Some first) None = Whole
by_places size (Some first) (Some last) = int_range size first last

abbrev pub by_count : ℕ → Option ℕ → Wanted
by_count size None = Whole
by_count size (Some count) = suffix_range size count

-- first-pos "-" [ last-pos ], or "-" suffix-length, by what stands on both sides (14.1.1)
abbrev pub range_spec : ℕ → List ℕ → List ℕ → Wanted
range_spec size before behind =
    if is_filled before then by_places size (number before) (if is_filled behind then number behind else Some size)
    else by_count size (number behind)

abbrev pub range_set : ℕ → List ℕ → Wanted
range_set size set = if list_any is_hyphen set then range_spec size (before_first is_hyphen set) (after_first is_hyphen set) else Whole

-- "bytes=" and one range; several ranges, another unit and what is none of these are ignored (14.2)
abbrev pub ranges_specifier : ℕ → List ℕ → Wanted
ranges_specifier size value =
    if eq_ignore_case (before_first is_equals value) (codes "bytes") then range_set size (after_first is_equals value) else Whole

-- what the Range fields want: there is one, or all is wanted
abbrev pub by_ranges : ℕ → List (List ℕ) → Wanted
by_ranges size [] = Whole
by_ranges size (value ∷ []) = ranges_specifier size value
by_ranges size (value ∷ other ∷ more) = Whole

-- If-Range (13.1.5): the tag is this one by the strong comparison. A page has no date, so none is its own
abbrev pub is_unchanged : List ℕ → List (List ℕ) → Bool
is_unchanged tag [] = true
is_unchanged tag (value ∷ []) = bytes_eq value tag
is_unchanged tag (value ∷ other ∷ more) = false

-- what a request with these field lines wants of a page with this tag and so many bytes
abbrev pub wanted_part : List ℕ → ℕ → List (List ℕ) → Wanted
wanted_part tag size fields =
    if is_unchanged tag (values_of (codes "if-range") fields) then by_ranges size (values_of (codes "range") fields) else Whole
