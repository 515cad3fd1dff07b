-- A host and its port (RFC 3986, 3.2.2 and 3.2.3), as a Host field (RFC 9112, 3.2) and the target of an http URI (RFC 9110, 4.2.1) have them.
use Rattle.std.specs.Prelude.{ℕ, zero, suc, ◌==◌, Bool, true, not, ◌&&◌, ◌||◌, if◌then◌else◌, List, [], ◌∷◌, codes, slice_index}
use Rattle.std.specs.List.{list_all, list_any, before_first, after_first}
use Rattle.std.specs.Char.{is_ascii_alphanumeric, is_ascii_digit, is_ascii_hexdigit}
use Rattle.httparse.specs.Ascii.{colon}
use Rattle.http_pages.specs.Heads.{is_filled}

-- unreserved and sub-delims: the bytes of a name that stand for themselves
abbrev pub is_name_byte : ℕ → Bool
is_name_byte b = is_ascii_alphanumeric b || list_any (λ c. c == b) (codes "-._~!$&'()*+,;=")

-- reg-name, of which so many hexadecimal digits are owed to a percent sign before it
abbrev pub is_name_after : ℕ → List ℕ → Bool
is_name_after n [] = n == 0
is_name_after zero (b ∷ bytes) = if b == 37 then is_name_after 2 bytes else is_name_byte b && is_name_after zero bytes
is_name_after (suc n) (b ∷ bytes) = is_ascii_hexdigit b && is_name_after n bytes

-- nothing, or a colon and digits
abbrev pub is_port : List ℕ → Bool
is_port [] = true
is_port (b ∷ digits) = (b == colon) && list_all is_ascii_digit digits

-- the bytes of an address between brackets, whichever version it is of
abbrev pub is_address_byte : ℕ → Bool
is_address_byte b = is_name_byte b || (b == colon)

abbrev pub is_bracket : ℕ → Bool
is_bracket b = b == 93

-- IP-literal behind its first bracket, judged by its bytes alone, and a port
abbrev pub is_literal : List ℕ → Bool
is_literal text =
    (is_filled (before_first is_bracket text) && list_all is_address_byte (before_first is_bracket text))
    && (list_any is_bracket text && is_port (after_first is_bracket text))

-- uri-host [ ":" port ]; a name may be empty
abbrev pub is_host : List ℕ → Bool
is_host [] = true
is_host (b ∷ text) =
    if b == 91 then is_literal text
    else is_name_after 0 (before_first (λ c. c == colon) (b ∷ text)) && list_all is_ascii_digit (after_first (λ c. c == colon) (b ∷ text))

-- the authority of an http URI: its host isn't empty (RFC 9110, 4.2.1), and no user stands before it (4.2.4)
abbrev pub is_authority : List ℕ → Bool
is_authority text = (is_filled text && not (slice_index text 0 == colon)) && is_host text
