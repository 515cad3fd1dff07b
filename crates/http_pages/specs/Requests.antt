-- What a request's head says (RFC 9112, 3 and 5 to 7), and what of it is refused whatever it asks for.
use Rattle.std.specs.Prelude.{ℕ, ◌+◌, ◌==◌, nat_lt, Bool, true, false, not, ◌&&◌, ◌||◌, if◌then◌else◌, List, map, length, take, codes, bytes_eq, slice_index, Option, None, Some, Result, Ok, Err}
use Rattle.std.specs.List.{list_all, list_any, before_first, after_first, filter, slice_split}
use Rattle.std.specs.Char.{is_ascii_digit}
use Rattle.httparse.specs.Ascii.{space, colon, comma, digit_zero}
use Rattle.httparse.specs.Grammar.{is_token, is_uri_byte, is_value_byte, trim_ows}
use Rattle.http1.specs.Text.{eq_ignore_case}
use Rattle.http1.specs.Fields.{Header, known_fields}
use Rattle.http1.specs.declared.fields.KnownFields.{KnownFields}
use Rattle.http1.specs.Framing.{method_kind, request_framing}
use Rattle.http1.specs.declared.framing.Framing.{Framing}
use Rattle.http1.specs.declared.framing.Framing.TheVariants.{NoBody, Length, Chunked, UntilClose}
use Rattle.http1.specs.declared.framing.FramingError.{FramingError}
use Rattle.http_pages.specs.declared.answer.Status.{Status}
use Rattle.http_pages.specs.declared.answer.Status.TheVariants.{BadRequest, NotImplemented, VersionNotSupported}
use Rattle.http_pages.specs.Heads.{is_filled}
use Rattle.http_pages.specs.Hosts.{is_host}

abbrev pub is_space : ℕ → Bool
is_space b = b == space

abbrev pub is_colon : ℕ → Bool
is_colon b = b == colon

abbrev pub is_comma : ℕ → Bool
is_comma b = b == comma

-- request-line = method SP request-target SP HTTP-version (RFC 9112, 3)
abbrev pub method_of : List ℕ → List ℕ
method_of line = before_first is_space line

abbrev pub target_of : List ℕ → List ℕ
target_of line = before_first is_space (after_first is_space line)

abbrev pub version_of : List ℕ → List ℕ
version_of line = after_first is_space (after_first is_space line)

-- HTTP-version = "HTTP/" DIGIT "." DIGIT (2.3)
abbrev pub is_version : List ℕ → Bool
is_version v =
    (length v == 8) && (bytes_eq (take 5 v) (codes "HTTP/")
    && (is_ascii_digit (slice_index v 5) && ((slice_index v 6 == 46) && is_ascii_digit (slice_index v 7))))

-- the major version is ours, whose minor versions are read alike (RFC 9110, 2.5)
abbrev pub is_major_one : List ℕ → Bool
is_major_one v = slice_index v 5 == digit_zero + 1

-- 0 for HTTP/1.0, and 1 for HTTP/1.1 and those behind it
abbrev pub minor_of : List ℕ → ℕ
minor_of v = if slice_index v 7 == digit_zero then 0 else 1

abbrev pub is_request_line : List ℕ → Bool
is_request_line line =
    is_token (method_of line)
    && ((is_filled (target_of line) && list_all is_uri_byte (target_of line)) && is_version (version_of line))

-- field-line = field-name ":" OWS field-value OWS (RFC 9112, 5)
abbrev pub name_of : List ℕ → List ℕ
name_of line = before_first is_colon line

abbrev pub value_of : List ℕ → List ℕ
value_of line = trim_ows (after_first is_colon line)

-- no white space before the colon (5.1), no line folding (5.2), and no CR or NUL in a value (RFC 9110, 5.5)
abbrev pub is_field_line : List ℕ → Bool
is_field_line line =
    is_token (name_of line) && (list_any is_colon line && list_all is_value_byte (after_first is_colon line))

abbrev pub header_of : List ℕ → Header
header_of line = (name_of line, value_of line)

-- what the field lines say of host, content and connection
abbrev pub known_of : List (List ℕ) → KnownFields
known_of fields = known_fields (map header_of fields)

-- the elements of a list value, but for empty ones (RFC 9110, 5.6.1)
unfoldable pub list_elements : List ℕ → List (List ℕ)
list_elements value = filter is_filled (map trim_ows (slice_split is_comma value))

-- a star, which stands for all tags, or a list with an element that passes (RFC 9110, 13.1.1 and 13.1.2)
abbrev pub has_tag : (List ℕ → Bool) → List ℕ → Bool
has_tag test value = bytes_eq value (codes "*") || list_any test (list_elements value)

-- a field of this name has such a value
abbrev pub names_tag : List ℕ → (List ℕ → Bool) → List (List ℕ) → Bool
names_tag name test fields = list_any (λ line. eq_ignore_case (name_of line) name && has_tag test (value_of line)) fields

-- the values of the fields of this name, in order
abbrev pub is_named : List ℕ → List ℕ → Bool
is_named name line = eq_ignore_case (name_of line) name

unfoldable pub values_of : List ℕ → List (List ℕ) → List (List ℕ)
values_of name fields = map value_of (filter (is_named name) fields)

abbrev pub has_field : List ℕ → List (List ℕ) → Bool
has_field name fields = list_any (λ line. eq_ignore_case (name_of line) name) fields

abbrev pub names_host : List ℕ → Bool
names_host line = not (eq_ignore_case (name_of line) (codes "host")) || is_host (value_of line)

-- one Host field with 1.1, at most one with 1.0, and only hosts in it (RFC 9112, 3.2)
abbrev pub has_host : ℕ → List (List ℕ) → Bool
has_host minor fields =
    ((known_of fields).hosts == 1 || ((minor == 0) && ((known_of fields).hosts == 0))) && list_all names_host fields

-- content comes behind the head (RFC 9112, 6)
abbrev pub is_content : Framing → Bool
is_content NoBody = false
is_content (Length n) = nat_lt 0 n
is_content Chunked = true
is_content UntilClose = true

abbrev pub framing_fault : Bool → Result Framing FramingError → Option Status
framing_fault other_coding (Ok framing) = if other_coding then Some NotImplemented else None
framing_fault other_coding (Err e) = Some BadRequest

abbrev pub has_content_by : Result Framing FramingError → Bool
has_content_by (Ok framing) = is_content framing
has_content_by (Err e) = true

abbrev pub framing_of : List ℕ → List (List ℕ) → Result Framing FramingError
framing_of line fields = request_framing (method_kind (method_of line)) (minor_of (version_of line)) (known_of fields)

abbrev pub has_content : List ℕ → List (List ℕ) → Bool
has_content line fields = has_content_by (framing_of line fields)

-- why a head is refused, whatever it asks for. No length of a message can be trusted then, so the connection ends:
-- a request line or a field line that isn't one (RFC 9112, 2.2), another major version (RFC 9110, 15.6.6), a Host that isn't there or isn't
-- one (RFC 9112, 3.2), content whose length can't be told (6.3), and a coding that isn't known (6.1)
abbrev pub fault_of : List ℕ → List (List ℕ) → Option Status
fault_of line fields =
    if not (is_request_line line) then Some BadRequest
    else (if not (is_major_one (version_of line)) then Some VersionNotSupported
    else (if not (list_all is_field_line fields && has_host (minor_of (version_of line)) fields) then Some BadRequest
    else framing_fault (known_of fields).other_coding (framing_of line fields)))

-- the connection stays behind this request (RFC 9112, 9.3): by default with 1.1, by `keep-alive` with 1.0; not with `close`, and not
-- where content follows, since it is not read
abbrev pub keeps : List ℕ → List (List ℕ) → Bool
keeps line fields =
    not (known_of fields).close && (not (has_content line fields)
    && (not (minor_of (version_of line) == 0) || (known_of fields).keep_alive))
