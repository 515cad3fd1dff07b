-- The page that a path names lies there.
use Rattle.std.proofs.Common.{◌≡◌, ℕ, ◌+◌, ◌-◌, ◌<◌, ◌≤◌, Bool, true, false, cond, List, [], ◌∷◌, ◌++◌, length, refl, sym, ap, ◌∙◌, arith, append-nil, subst}
use Rattle.std.specs.Prelude.{suc, zero, Some, None}
use Rattle.std.specs.List.{position_from}
use Rattle.std.proofs.lemmas.Bool.{false≢true}
use Rattle.std.proofs.lemmas.Option.{same_Some, none-some}
use Rattle.std.proofs.lemmas.Slice.Eq.{bytes_eq-Decides}
use Rattle.percent_encoding.specs.Percent.{percent_decode}
use Rattle.http_pages.specs.Choosing.{nth_page}
use Rattle.http_pages.specs.Naming.{LiesAt, NoneLiesAt}
use Rattle.http_pages.specs.Pages.{Page, is_at, page_at, page_named}

module _ (path : List ℕ) where
  record Found (i : ℕ) (pages : List Page) (n : ℕ) : Type 0 where
    pub from : i ≤ n
    pub within : n < i + length pages
    pub lies : (nth_page pages (n - i)).path ≡ path

  found-by : (t : Bool) (i : ℕ) (page : Page) (pages : List Page) (n : ℕ) → is_at path page ≡ t → cond t (Some i) (position_from (is_at path) (i + 1) pages) ≡ Some n
      → (position_from (is_at path) (i + 1) pages ≡ Some n → Found (i + 1) pages n) → Found i (page ∷ pages) n
  found-by true i page pages n e is later =
      let same = same_Some i n is in
      let first : n - i ≡ 0 = omega (arith, same) in
      record {
        from = omega (arith, same);
        within = omega (arith, same);
        lies = ap (λ (k : ℕ). (nth_page (page ∷ pages) k).path) first ∙ (bytes_eq-Decides page.path path).0 e;
      }
  found-by false i page pages n e is later =
      let f = later is in
      let next : n - i ≡ suc (n - (i + 1)) = omega (arith, f.from) in
      record {
        from = omega (arith, f.from);
        within = omega (arith, f.within);
        lies = ap (λ (k : ℕ). (nth_page (page ∷ pages) k).path) next ∙ f.lies;
      }

  found : (i : ℕ) (pages : List Page) (n : ℕ) → position_from (is_at path) i pages ≡ Some n → Found i pages n
  found i [] n is = absurd (none-some n is)
  found i (page ∷ pages) n is = found-by (is_at path page) i page pages n refl is (λ e. found (i + 1) pages n e)

  nowhere-more : (page : Page) (pages : List Page) → is_at path page ≡ false → NoneLiesAt pages path → NoneLiesAt (page ∷ pages) path
  nowhere-more page pages e more zero w = λ same. absurd (false≢true (sym e ∙ (bytes_eq-Decides page.path path).1 same))
  nowhere-more page pages e more (suc k) w = more k (omega (arith, w))

  nowhere-by : (t : Bool) (i : ℕ) (page : Page) (pages : List Page) → is_at path page ≡ t → cond t (Some i) (position_from (is_at path) (i + 1) pages) ≡ None
      → (position_from (is_at path) (i + 1) pages ≡ None → NoneLiesAt pages path) → NoneLiesAt (page ∷ pages) path
  nowhere-by true i page pages e is later = absurd (none-some i (sym is))
  nowhere-by false i page pages e is later = nowhere-more page pages e (later is)

  nowhere : (i : ℕ) (pages : List Page) → position_from (is_at path) i pages ≡ None → NoneLiesAt pages path
  nowhere i [] is = λ k w. absurd (omega (arith, w))
  nowhere i (page ∷ pages) is = nowhere-by (is_at path page) i page pages refl is (λ e. nowhere (i + 1) pages e)

  pub at-lies : (pages : List Page) (n : ℕ) → page_at pages path ≡ Some n → LiesAt pages path n
  unfolding page_at
  at-lies pages n is =
      let f = found 0 pages n is in
      let all : n - 0 ≡ n = omega arith in
      (omega (arith, f.within), ap (λ (k : ℕ). (nth_page pages k).path) (sym all) ∙ f.lies)

  pub none-lies : (pages : List Page) → page_at pages path ≡ None → NoneLiesAt pages path
  unfolding page_at
  none-lies pages is = nowhere 0 pages is

pub named-lies : (pages : List Page) (escaped : List ℕ) (n : ℕ) → page_named pages escaped ≡ Some n → LiesAt pages (percent_decode escaped) n
named-lies pages escaped n is =
    subst (λ (path : List ℕ). LiesAt pages path n) (append-nil (percent_decode escaped)) (at-lies (percent_decode escaped ++ []) pages n is)

pub unnamed : (pages : List Page) (escaped : List ℕ) → page_named pages escaped ≡ None → NoneLiesAt pages (percent_decode escaped)
unnamed pages escaped is =
    subst (λ (path : List ℕ). NoneLiesAt pages path) (append-nil (percent_decode escaped)) (none-lies (percent_decode escaped ++ []) pages is)
