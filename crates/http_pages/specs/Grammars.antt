-- The heads that are read here, beside those of the kit's grammar.
use Rattle.std.specs.Prelude.{◌≡◌, ℕ, Bool, true, false, List, ◌∷◌, map, take, Some, IsUtf8}
use Rattle.std.specs.List.{list_all}
use Rattle.httparse.specs.Grammar.{RequestHead, print_version}
use Rattle.httparse.specs.Spans.{name_and_value}
use Rattle.http_pages.specs.declared.answer.Answer.{Answer}
use Rattle.http_pages.specs.declared.answer.Status.{Status}
use Rattle.http_pages.specs.declared.answer.Status.TheVariants as s
use Rattle.http_pages.specs.Heads.{head_length, lines}
use Rattle.http_pages.specs.Requests.{header_of, is_field_line, is_request_line, method_of, minor_of, target_of, version_of}

-- the first n bytes are a head, and its lines are a request line and field lines
pub record IsHead (bytes : List ℕ) (n : ℕ) (line : List ℕ) (fields : List (List ℕ)) : Type 0 where
  pub ends : head_length bytes ≡ Some n
  pub cut : lines (take n bytes) ≡ line ∷ fields
  pub request_line : is_request_line line ≡ true
  pub field_lines : list_all is_field_line fields ≡ true

-- what the grammar asks for beside: HTTP/1.0 or HTTP/1.1, and a target that is UTF-8
pub record IsNarrow (line : List ℕ) : Type 0 where
  pub version : version_of line ≡ print_version (minor_of (version_of line))
  pub target : IsUtf8 (target_of line)

-- they say the same
pub record SaysAs (h : RequestHead) (line : List ℕ) (fields : List (List ℕ)) : Type 0 where
  pub method : method_of line ≡ h.method
  pub target : target_of line ≡ h.target
  pub minor : minor_of (version_of line) ≡ h.minor
  pub headers : map header_of fields ≡ map name_and_value h.fields

-- a status for what is no head: 400, 414, 431 and 505 (RFC 9112, 3; RFC 9110, 15.6.6; RFC 6585, 5)
abbrev pub refuses_heads : Status → Bool
refuses_heads s.Ok = false
refuses_heads s.PartialContent = false
refuses_heads s.MovedPermanently = false
refuses_heads s.NotModified = false
refuses_heads s.BadRequest = true
refuses_heads s.NotFound = false
refuses_heads s.MethodNotAllowed = false
refuses_heads s.PreconditionFailed = false
refuses_heads s.ContentTooLarge = false
refuses_heads s.UriTooLong = true
refuses_heads s.RangeNotSatisfiable = false
refuses_heads s.HeadTooLarge = true
refuses_heads s.NotImplemented = false
refuses_heads s.VersionNotSupported = true

-- what came is refused, and the connection ends
pub record IsRefusal (a : Answer) : Type 0 where
  pub status : refuses_heads a.status ≡ true
  pub ends : a.keeps ≡ false
