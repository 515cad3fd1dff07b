-- The answer to a request (RFC 9110, 9.1, 9.3, 13 and 15).
use Rattle.std.specs.Prelude.{ℕ, ◌==◌, nat_le, nat_lt, Bool, true, false, not, ◌&&◌, ◌||◌, if◌then◌else◌, List, [], ◌∷◌, length, take, drop, codes, bytes_eq, slice_index, slice_index_or, Option, None, Some}
use Rattle.std.specs.List.{list_any, before_first, position_or_len}
use Rattle.http_pages.specs.declared.answer.Status.{Status}
use Rattle.http_pages.specs.declared.answer.Status.TheVariants as s
use Rattle.http_pages.specs.declared.answer.Answer.{Answer}
use Rattle.http1.specs.Text.{eq_ignore_case}
use Rattle.http_pages.specs.Pages.{Page, page_named, folder_named}
use Rattle.http_pages.specs.declared.ranges.Wanted.{Wanted}
use Rattle.http_pages.specs.declared.ranges.Wanted.TheVariants.{Whole, Part, Nothing}
use Rattle.http_pages.specs.Heads.{lines}
use Rattle.http_pages.specs.Hosts.{is_authority}
use Rattle.http_pages.specs.Ranges.{wanted_part}
use Rattle.http_pages.specs.Requests.{method_of, target_of, version_of, minor_of, fault_of, has_content, keeps, names_tag, has_field}

abbrev pub is_slash : ℕ → Bool
is_slash b = b == 47

abbrev pub is_question : ℕ → Bool
is_question b = b == 63

-- from the first slash on, or a slash where there is none
abbrev pub from_slash : List ℕ → List ℕ
from_slash rest = let n = position_or_len is_slash rest in if nat_lt n (length rest) then drop n rest else 47 ∷ []

abbrev pub has_scheme : List ℕ → Bool
has_scheme target = nat_le 7 (length target) && eq_ignore_case (take 7 target) (codes "http://")

-- the path behind the authority of an http URI (RFC 9110, 4.2.1). Which host it names doesn't matter, since there is one site
abbrev pub behind_authority : List ℕ → Option (List ℕ)
behind_authority rest = if is_authority (before_first is_slash rest) then Some (from_slash rest) else None

-- the path of a target, without its query: of the origin form (RFC 9112, 3.2.1), and of the absolute form (3.2.2)
unfoldable pub path_of : List ℕ → Option (List ℕ)
path_of target =
    if slice_index target 0 == 47 then Some (before_first is_question target)
    else (if has_scheme target then behind_authority (before_first is_question (drop 7 target)) else None)

-- a tag of the field is this one: by the strong comparison, where no weak tag counts, or by the weak one (RFC 9110, 8.8.3.2)
abbrev pub is_same : Bool → List ℕ → List ℕ → Bool
is_same weak tag element =
    bytes_eq element tag
    || (weak && (nat_le 2 (length element) && (bytes_eq (take 2 element) (codes "W/") && bytes_eq (drop 2 element) tag)))

-- If-Match (13.1.1): what is changed elsewhere isn't wanted
abbrev pub is_matched : List ℕ → List (List ℕ) → Bool
is_matched tag fields = not (has_field (codes "if-match") fields) || names_tag (codes "if-match") (is_same false tag) fields

-- If-None-Match (13.1.2): the client has it already
abbrev pub is_had : List ℕ → List (List ℕ) → Bool
is_had tag fields = names_tag (codes "if-none-match") (is_same true tag) fields

abbrev pub is_head : List ℕ → Bool
is_head method = bytes_eq method (codes "HEAD")

-- methods that a static page has (9.3.1, 9.3.2)
abbrev pub is_served : List ℕ → Bool
is_served method = bytes_eq method (codes "GET") || is_head method

-- the other methods of RFC 9110, 9.3, and of RFC 5789
abbrev pub is_known : List ℕ → Bool
is_known method =
    list_any (bytes_eq method)
    (codes "POST" ∷ codes "PUT" ∷ codes "DELETE" ∷ codes "CONNECT" ∷ codes "OPTIONS" ∷ codes "TRACE" ∷ codes "PATCH" ∷ [])

-- behind this answer the connection ends
abbrev pub refused : Status → Bool → ℕ → Answer
refused status only_head at = record {
  status = status;
  page = 0;
  from = 0;
  to = 0;
  only_head = only_head;
  keeps = false;
  old = false;
  at = at;
}

-- an answer without a page
abbrev pub plain : List ℕ → List (List ℕ) → ℕ → Status → Answer
plain line fields at status = record {
  status = status;
  page = 0;
  from = 0;
  to = 0;
  only_head = is_head (method_of line);
  keeps = keeps line fields;
  old = minor_of (version_of line) == 0;
  at = at;
}

-- all of a page
abbrev pub of_page : ℕ → ℕ → Answer → Answer
of_page page size a = record a { page = page; to = size }

abbrev pub no_page : Page
no_page = record { path = []; kind = []; tag = []; body = [] }

abbrev pub nth_page : List Page → ℕ → Page
nth_page pages n = slice_index_or pages n no_page

-- with the part of the page that is wanted (15.3.7, 15.5.17)
abbrev pub with_part : Answer → Wanted → Answer
with_part a Whole = a
with_part a (Part from to) = record a { status = s.PartialContent; from = from; to = to }
with_part a Nothing = record a { status = s.RangeNotSatisfiable }

-- ranges are for GET alone (14.2)
abbrev pub by_range : List ℕ → List (List ℕ) → Answer → Answer
by_range tag fields a = if a.only_head then a else with_part a (wanted_part tag a.to fields)

-- what the conditions come to, in the order of 13.2.2, and the range behind them
abbrev pub by_conditions : List ℕ → List (List ℕ) → Answer → Answer
by_conditions tag fields a =
    if not (is_matched tag fields) then record a { status = s.PreconditionFailed }
    else (if is_had tag fields then record a { status = s.NotModified } else by_range tag fields a)

abbrev pub found : List Page → List (List ℕ) → Answer → ℕ → Answer
found pages fields a n = by_conditions (nth_page pages n).tag fields (of_page n (length (nth_page pages n).body) a)

abbrev pub at_folder : Option ℕ → Answer → Answer
at_folder None a = record a { status = s.NotFound }
at_folder (Some n) a = record a { status = s.MovedPermanently; page = n }

abbrev pub at_page : List Page → List ℕ → List (List ℕ) → Answer → Option ℕ → Answer
at_page pages path fields a None = at_folder (folder_named pages path) a
at_page pages path fields a (Some n) = found pages fields a n

-- by the target's path; a target in neither form is refused, and the connection ends
abbrev pub by_path : List Page → List (List ℕ) → Answer → Option (List ℕ) → Answer
by_path pages fields a None = record a { status = s.BadRequest; keeps = false }
by_path pages fields a (Some path) = at_page pages path fields a (page_named pages path)

-- the status where the method isn't one of a page's, or content comes that nobody wants (15.5.6, 15.5.14, 15.6.2)
abbrev pub unserved : Bool → List ℕ → Option Status
unserved content method =
    if is_served method then (if content then Some s.ContentTooLarge else None)
    else (if is_known method then Some s.MethodNotAllowed else Some s.NotImplemented)

abbrev pub by_method : List Page → List ℕ → List (List ℕ) → ℕ → Option Status → Answer
by_method pages line fields at (Some status) = plain line fields at status
by_method pages line fields at None = by_path pages fields (plain line fields at s.Ok) (path_of (target_of line))

abbrev pub by_fault : List Page → List ℕ → List (List ℕ) → ℕ → Option Status → Answer
by_fault pages line fields at (Some status) = refused status (is_head (method_of line)) at
by_fault pages line fields at None = by_method pages line fields at (unserved (has_content line fields) (method_of line))

abbrev pub by_lines : List Page → ℕ → List (List ℕ) → Answer
by_lines pages at [] = refused s.BadRequest false at
by_lines pages at (line ∷ fields) = by_fault pages line fields at (fault_of line fields)

-- the answer to a head, all of whose bytes are here
unfoldable pub answer : List Page → ℕ → List ℕ → Answer
answer pages at head = by_lines pages at (lines head)
