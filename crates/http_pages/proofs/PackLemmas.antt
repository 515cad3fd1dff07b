-- A pack read page by page.
use Rattle.std.proofs.Common.{◌≡◌, ◌∙◌, ℕ, zero, suc, ◌+◌, ◌-◌, ◌<◌, ◌≤◌, true, List, [], ◌∷◌, ◌++◌, length, drop, refl, sym, ap, arith, append_assoc, append-nil, length-append, length-drop}
use Rattle.std.proofs.lemmas.Bool.{le-leb}
use Rattle.std.proofs.lemmas.Bool.Decides.{leb_tells}
use Rattle.std.proofs.lemmas.List.{drop-drop, drop_all, map-append}
use Rattle.std.specs.Prelude.{Option, Some, None, option_map, nat_le}
use Rattle.std.specs.Option.{option_and_then}
use Rattle.http_pages.specs.declared.pages.PagePlaces.{PagePlaces}
use Rattle.http_pages.specs.Inside.{page_of, pages_at, page_with_rest, part_with}
use Rattle.http_pages.specs.Limits.{most_pages}
use Rattle.http_pages.specs.Pages.{Page, number_in, part_in, page_in, pages_in, onto_pages}

pub part_some : (pack : List ℕ) (at n : ℕ) → n ≡ number_in (drop at pack) → 4 + n ≤ length (drop at pack) → part_in (drop at pack) ≡ Some (part_with pack (record { from = at + 4; to = at + 4 + n }))
unfolding part_in
part_some pack at n is fits =
    let yes : nat_le (4 + n) (length (drop at pack)) ≡ true = le-leb (4 + n) (length (drop at pack)) fits in
    let size : at + 4 + n - (at + 4) ≡ n = omega arith in
    let first : drop 4 (drop at pack) ≡ drop (at + 4) pack = drop-drop 4 at pack in
    let behind : drop (4 + n) (drop at pack) ≡ drop (at + 4 + n) pack = drop-drop (4 + n) at pack ∙ ap (λ k. drop k pack) (omega arith) in
    rw (← is, yes, size, first, behind) refl

pub part_none : (pack : List ℕ) (at : ℕ) → length (drop at pack) < 4 + number_in (drop at pack) → part_in (drop at pack) ≡ None
unfolding part_in
part_none pack at few = grind (arith, few, leb_tells (4 + number_in (drop at pack)) (length (drop at pack)))

-- what was read so far, and what is left of it
abbrev pub Reads : List ℕ → List PagePlaces → ℕ → Type 0
Reads pack places at =
    pages_in most_pages pack ≡ option_map (λ more. pages_at pack places ++ more) (pages_in (most_pages - length places) (drop at pack))

map_same : (x : Option (List Page)) → option_map (λ more. more) x ≡ x
map_same None = refl
map_same (Some pages) = refl

pub reads_first : (pack : List ℕ) (at : ℕ) → at ≡ 0 → Reads pack [] at
reads_first pack at none = rw none (sym (map_same (pages_in most_pages pack)))

end_in : (n : ℕ) (bytes : List ℕ) → bytes ≡ [] → pages_in n bytes ≡ Some []
unfolding pages_in
end_in zero bytes none = rw none refl
end_in (suc n) bytes none = rw none refl

pub reads_all : (pack : List ℕ) (places : List PagePlaces) (at : ℕ) → length pack ≤ at → Reads pack places at → pages_in most_pages pack ≡ Some (pages_at pack places)
reads_all pack places at all reads =
    reads ∙ rw (end_in (most_pages - length places) (drop at pack) (drop_all at pack all)) (ap Some (append-nil (pages_at pack places)))

too_many : (bytes : List ℕ) → 0 < length bytes → pages_in 0 bytes ≡ None
unfolding pages_in
too_many [] some = absurd (omega (arith, some))
too_many (b ∷ bytes) some = refl

pub reads_too_many : (pack : List ℕ) (places : List PagePlaces) (at : ℕ) → at < length pack → most_pages ≤ length places → Reads pack places at → pages_in most_pages pack ≡ None
reads_too_many pack places at some many reads =
    let none : most_pages - length places ≡ 0 = omega (arith, many) in
    reads ∙ rw (none, too_many (drop at pack) (omega (arith, length-drop at pack, some))) refl

no_page : (n : ℕ) (bytes : List ℕ) → 0 < length bytes → page_in bytes ≡ None → pages_in n bytes ≡ None
unfolding pages_in
no_page n [] some e = absurd (omega (arith, some))
no_page zero (b ∷ bytes) some e = refl
no_page (suc n) (b ∷ bytes) some e = ap (option_and_then (λ page. onto_pages page.0 (pages_in n page.1))) e

pub reads_none : (pack : List ℕ) (places : List PagePlaces) (at : ℕ) → at < length pack → page_in (drop at pack) ≡ None → Reads pack places at → pages_in most_pages pack ≡ None
reads_none pack places at some e reads =
    reads ∙ rw (no_page (most_pages - length places) (drop at pack) (omega (arith, length-drop at pack, some)) e) refl

a_page : (n k : ℕ) (bytes rest : List ℕ) (page : Page) → n ≡ suc k → 0 < length bytes → page_in bytes ≡ Some (page, rest) → pages_in n bytes ≡ onto_pages page (pages_in k rest)
unfolding pages_in
a_page n k [] rest page more some e = absurd (omega (arith, some))
a_page n k (b ∷ bytes) rest page more some e = rw more (ap (option_and_then (λ page. onto_pages page.0 (pages_in k page.1))) e)

moved : (front : List Page) (page : Page) (x : Option (List Page)) → option_map (λ more. front ++ more) (onto_pages page x) ≡ option_map (λ more. (front ++ page ∷ []) ++ more) x
moved front page None = refl
moved front page (Some more) = ap Some (sym (append_assoc front (page ∷ []) more))

pub reads_more : (pack : List ℕ) (places : List PagePlaces) (at : ℕ) (p : PagePlaces) → at < length pack → length places < most_pages → page_in (drop at pack) ≡ Some (page_with_rest pack p) → Reads pack places at → Reads pack (places ++ p ∷ []) p.body.to
reads_more pack places at p some few e reads =
    let left = a_page (most_pages - length places) (most_pages - length (places ++ p ∷ [])) (drop at pack) (drop p.body.to pack) (page_of pack p) (omega (arith, length-append places (p ∷ []), few)) (omega (arith, length-drop at pack, some)) e in
    let front : pages_at pack (places ++ p ∷ []) ≡ pages_at pack places ++ page_of pack p ∷ [] = map-append (page_of pack) places (p ∷ []) in
    reads ∙ rw (left, front) (moved (pages_at pack places) (page_of pack p) (pages_in (most_pages - length (places ++ p ∷ [])) (drop p.body.to pack)))
