-- How pages stand in their pack.
use Rattle.std.specs.Prelude.{ℕ, ◌≤◌, List, map, drop, slice_range}
use Rattle.http_pages.specs.declared.pages.Place.{Place}
use Rattle.http_pages.specs.declared.pages.PagePlaces.{PagePlaces}
use Rattle.http_pages.specs.Pages.{Page}

abbrev pub bytes_at : List ℕ → Place → List ℕ
bytes_at pack p = slice_range pack p.from p.to

abbrev pub page_of : List ℕ → PagePlaces → Page
page_of pack p = record {
  path = bytes_at pack p.path;
  kind = bytes_at pack p.kind;
  tag = bytes_at pack p.tag;
  body = bytes_at pack p.body;
}

-- a part, and what stands behind it
abbrev pub part_with : List ℕ → Place → List ℕ × List ℕ
part_with pack p = (bytes_at pack p, drop p.to pack)

abbrev pub page_with_rest : List ℕ → PagePlaces → Page × List ℕ
page_with_rest pack p = (page_of pack p, drop p.body.to pack)

abbrev pub pages_at : List ℕ → List PagePlaces → List Page
pages_at pack places = map (page_of pack) places

abbrev pub IsWithin : ℕ → Place → Type 0
IsWithin n p = (p.from ≤ p.to) × (p.to ≤ n)

pub record IsPlaced (n : ℕ) (p : PagePlaces) : Type 0 where
  pub path : IsWithin n p.path
  pub kind : IsWithin n p.kind
  pub tag : IsWithin n p.tag
  pub body : IsWithin n p.body
