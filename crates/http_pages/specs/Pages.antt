-- The pages of a site, and the pack that they are read from.
use Rattle.std.specs.Prelude.{ℕ, zero, suc, ◌+◌, ◌*◌, ◌-◌, nat_le, ◌==◌, Bool, true, not, ◌&&◌, if◌then◌else◌, List, [], ◌∷◌, ◌++◌, length, take, drop, slice_index, bytes_eq, Option, None, Some, option_map}
use Rattle.std.specs.List.{list_all, list_any, position_from}
use Rattle.std.specs.Option.{option_and_then}
use Rattle.httparse.specs.Ascii.{comma}
use Rattle.httparse.specs.Grammar.{is_uri_byte, is_value_byte}
use Rattle.percent_encoding.specs.Percent.{percent_decode}
use Rattle.http_pages.specs.Limits.{most_pages, most_pack, most_path, most_word}

-- where a page is, its media type (RFC 9110, 8.3), its entity tag with the quotes (8.8.3), and what it says
pub record Page : Type 0 where
  pub path : List ℕ
  pub kind : List ℕ
  pub tag : List ℕ
  pub body : List ℕ

-- the number in four bytes, the highest first
abbrev pub number_in : List ℕ → ℕ
number_in b = ((slice_index b 0 * 256 + slice_index b 1) * 256 + slice_index b 2) * 256 + slice_index b 3

-- a part behind its length in four bytes, and what stands behind it
unfoldable pub part_in : List ℕ → Option (List ℕ × List ℕ)
part_in bytes =
    if nat_le (4 + number_in bytes) (length bytes)
    then Some (take (number_in bytes) (drop 4 bytes), drop (4 + number_in bytes) bytes) else None

abbrev pub with_body : List ℕ → List ℕ → List ℕ → List ℕ × List ℕ → Page × List ℕ
with_body path kind tag body = (record { path = path; kind = kind; tag = tag; body = body.0 }, body.1)

-- the page at the front, in four parts, and what stands behind it
abbrev pub page_in : List ℕ → Option (Page × List ℕ)
page_in bytes =
    option_and_then (λ path.
    option_and_then (λ kind.
    option_and_then (λ tag. option_map (with_body path.0 kind.0 tag.0) (part_in tag.1)) (part_in kind.1))
    (part_in path.1))
    (part_in bytes)

abbrev pub onto_pages : Page → Option (List Page) → Option (List Page)
onto_pages page pages = option_map (λ more. page ∷ more) pages

-- all pages to the end, of which there are at most so many
unfoldable pub pages_in : ℕ → List ℕ → Option (List Page)
pages_in n [] = Some []
pages_in zero (b ∷ bytes) = None
pages_in (suc n) (b ∷ bytes) = option_and_then (λ page. onto_pages page.0 (pages_in n page.1)) (page_in (b ∷ bytes))

-- a media type: a line of text
abbrev pub is_kind : List ℕ → Bool
is_kind kind = nat_le 1 (length kind) && (nat_le (length kind) most_word && list_all is_value_byte kind)

abbrev pub is_quote : ℕ → Bool
is_quote b = b == 34

abbrev pub is_tag_byte : ℕ → Bool
is_tag_byte b = is_uri_byte b && (not (b == comma) && not (is_quote b))

-- a strong entity tag without a comma: visible text between two quotes
abbrev pub is_tag : List ℕ → Bool
is_tag tag =
    (nat_le 2 (length tag) && nat_le (length tag) most_word)
    && ((is_quote (slice_index tag 0) && is_quote (slice_index tag (length tag - 1))) && list_all is_tag_byte (take (length tag - 2) (drop 1 tag)))

abbrev pub is_path : List ℕ → Bool
is_path path = (slice_index path 0 == 47) && nat_le (length path) most_path

abbrev pub is_page : Page → Bool
is_page page = is_path page.path && (is_kind page.kind && is_tag page.tag)

abbrev pub is_at : List ℕ → Page → Bool
is_at path page = bytes_eq page.path path

-- no two pages of one path
abbrev pub all_differ : List Page → Bool
all_differ [] = true
all_differ (page ∷ pages) = not (list_any (is_at page.path) pages) && all_differ pages

abbrev pub if_good : List Page → Option (List Page)
if_good pages = if list_all is_page pages && all_differ pages then Some pages else None

-- the pages of a pack
unfoldable pub pages_of : List ℕ → Option (List Page)
pages_of pack = if nat_le (length pack) most_pack then option_and_then if_good (pages_in most_pages pack) else None

-- which page has this path
unfoldable pub page_at : List Page → List ℕ → Option ℕ
page_at pages path = position_from (is_at path) 0 pages

-- which page has the path that an escaped one stands for (RFC 3986, 2.1), with this end: the path without its escapes is compared byte for
-- byte, so no dots lead anywhere
abbrev pub page_with : List Page → List ℕ → List ℕ → Option ℕ
page_with pages path end = page_at pages (percent_decode path ++ end)

-- a page itself, or the index of a folder, where the slash behind its name is missing
abbrev pub page_named : List Page → List ℕ → Option ℕ
page_named pages path = page_with pages path []

abbrev pub folder_named : List Page → List ℕ → Option ℕ
folder_named pages path = page_with pages path (47 ∷ [])
