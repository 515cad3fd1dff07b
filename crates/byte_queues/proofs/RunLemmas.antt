-- Runs as cells: the next byte, the count of runs, and what leaves in front.
use Rattle.std.proofs.Common.{◌≡◌, ◌≢◌, ℕ, ◌+◌, ◌-◌, ◌^◌, ◌<◌, ◌≤◌, List, [], ◌∷◌, Some, Bool, true, false, cond, eqb, length, take, drop, map, refl, sym, ap, ◌∙◌, subst, arith, length-drop, min, get_or, ◌⊎◌, inl, inr}
use Rattle.std.specs.Prelude.{suc, zero, All, slice_get}
use Rattle.std.proofs.lemmas.Bool.Decides.{nat_tests}
use Rattle.std.proofs.lemmas.List.{drop_all}
use Rattle.byte_queues.specs.ReceiveQueue.{Cells, gap, held, front, runs, bytes, runs_of, grown}
use Rattle.byte_queues.specs.Runs.{end_of, cells_from, IsSpaced, front_of, dropped, dropped_some}
use Rattle.byte_queues.specs.declared.run.Run.{Run}
use Rattle.byte_queues.proofs.CellLemmas.{gap-front, held-front, gap-runs, held-runs, held-runs-new, held-drop, held-bytes}

-- a number is 0 or more
pub zero-or : (n : ℕ) → (n ≡ 0) ⊎ (0 < n)
zero-or zero = inl refl
zero-or (suc n) = inr (omega arith)

pub spaced-low : (low high : ℕ) (rs : List Run) → IsSpaced low high rs → low ≤ high
spaced-low low high [] h = h
spaced-low low high (r ∷ rs) h =
    let e = spaced-low (r.start + length r.bytes + 1) high rs h.2 in omega (arith, e, h.0, h.1)

pub spaced-lower : (low less high : ℕ) (rs : List Run) → less ≤ low → IsSpaced low high rs → IsSpaced less high rs
spaced-lower low less high [] e h = omega (arith, e, h)
spaced-lower low less high (r ∷ rs) e h = (omega (arith, e, h.0), h.1, h.2)

pub spaced-higher : (low high more : ℕ) (rs : List Run) → high ≤ more → IsSpaced low high rs → IsSpaced low more rs
spaced-higher low high more [] e h = omega (arith, e, h)
spaced-higher low high more (r ∷ rs) e h = (h.0, h.1, spaced-higher (r.start + length r.bytes + 1) high more rs e h.2)

pub spaced-small : (low high : ℕ) (rs : List Run) → high ≤ 2 ^ 64 → IsSpaced low high rs → All (λ (r : Run). end_of r < 2 ^ 64) rs
spaced-small low high [] e h k d lt = absurd (omega (arith, lt))
spaced-small low high (r ∷ rs) e h zero d lt =
    let below = spaced-low (r.start + length r.bytes + 1) high rs h.2 in omega (arith, below, e)
spaced-small low high (r ∷ rs) e h (suc k) d lt = spaced-small (r.start + length r.bytes + 1) high rs e h.2 k d (omega (arith, lt))

-- the next byte

pub later-front : (at high : ℕ) (rs : List Run) → IsSpaced (at + 1) high rs → front (cells_from at rs) ≡ 0
later-front at high [] h = refl
later-front at high (r ∷ rs) h = gap-front (r.start - at) (held r.bytes (cells_from (r.start + length r.bytes) rs)) (omega (arith, h.0))

pub here-front : (at high : ℕ) (r : Run) (rs : List Run) → IsSpaced at high (r ∷ rs) → r.start ≡ at → front (cells_from at (r ∷ rs)) ≡ length r.bytes
here-front at high r rs h e =
    let rest = cells_from (r.start + length r.bytes) rs in
    let none : r.start - at ≡ 0 = omega (arith, e) in
    let a = ap (λ (k : ℕ). front (gap k (held r.bytes rest))) none in
    let b = held-front r.bytes rest in
    let c = later-front (r.start + length r.bytes) high rs h.2 in
    omega (arith, a, b, c)

-- whether the first run begins at a position that isn't behind it
pub starts : (at high : ℕ) (r : Run) (rs : List Run) → IsSpaced at high (r ∷ rs) → ((r.start ≡ at) × (eqb r.start at ≡ true)) ⊎ ((at < r.start) × (eqb r.start at ≡ false))
starts at high r rs h =
    elim (zero-or (r.start - at)) [
      | inl e ↦ let same : r.start ≡ at = omega (arith, e, h.0) in inl (same, grind (arith, nat_tests, same))
      | inr e ↦ let above : at < r.start = omega (arith, e) in inr (above, grind (arith, nat_tests, above))
    ]

pub front-chosen : (t : Bool) (at : ℕ) (r : Run) (rs : List Run) → eqb r.start at ≡ t → front_of at (r ∷ rs) ≡ cond t r.bytes []
front-chosen t at r rs e = ap (λ (u : Bool). cond u r.bytes []) e

pub front-is : (at high : ℕ) (rs : List Run) → IsSpaced at high rs → front (cells_from at rs) ≡ length (front_of at rs)
front-is at high [] h = refl
front-is at high (r ∷ rs) h =
    elim (starts at high r rs h) [
      | inl e ↦ here-front at high r rs h e.0 ∙ ap length (sym (front-chosen true at r rs e.1))
      | inr e ↦ later-front at high (r ∷ rs) (omega (arith, e.0), h.1, h.2) ∙ ap length (sym (front-chosen false at r rs e.1))
    ]

-- what is held in front ends below the end of all runs
pub front-small : (at high : ℕ) (rs : List Run) → IsSpaced at high rs → at + length (front_of at rs) + min (length (front_of at rs)) 1 ≤ high
front-small at high [] h = omega (arith, h)
front-small at high (r ∷ rs) h =
    let low = spaced-low (r.start + length r.bytes + 1) high rs h.2 in
    elim (starts at high r rs h) [
      | inl e ↦ let f = ap length (front-chosen true at r rs e.1) in omega (arith, low, f, e.0)
      | inr e ↦ let f = ap length (front-chosen false at r rs e.1) in omega (arith, low, f, h.0)
    ]

-- the count of runs

pub later-runs : (b : Bool) (at high : ℕ) (rs : List Run) → IsSpaced (at + 1) high rs → runs b (cells_from at rs) ≡ length rs
later-runs b at high [] h = refl
later-runs b at high (r ∷ rs) h =
    let rest = cells_from (r.start + length r.bytes) rs in
    gap-runs b (r.start - at) (held r.bytes rest) (omega (arith, h.0))
    ∙ (held-runs-new r.bytes rest h.1 ∙ ap suc (later-runs true (r.start + length r.bytes) high rs h.2))

pub here-runs : (at high : ℕ) (r : Run) (rs : List Run) → IsSpaced at high (r ∷ rs) → r.start ≡ at → runs true (cells_from at (r ∷ rs)) ≡ length rs
here-runs at high r rs h e =
    let rest = cells_from (r.start + length r.bytes) rs in
    let none : r.start - at ≡ 0 = omega (arith, e) in
    ap (λ (k : ℕ). runs true (gap k (held r.bytes rest))) none
    ∙ (held-runs r.bytes rest ∙ later-runs true (r.start + length r.bytes) high rs h.2)

pub runs-is : (at high : ℕ) (rs : List Run) → IsSpaced at high rs → runs true (cells_from at rs) + min (length (front_of at rs)) 1 ≡ length rs
runs-is at high [] h = refl
runs-is at high (r ∷ rs) h =
    elim (starts at high r rs h) [
      | inl e ↦ let f = ap length (front-chosen true at r rs e.1) in let n = here-runs at high r rs h e.0 in omega (arith, f, n, h.1)
      | inr e ↦ let f = ap length (front-chosen false at r rs e.1) in let n = later-runs true at high (r ∷ rs) (omega (arith, e.0), h.1, h.2) in omega (arith, f, n)
    ]

-- the first run loses bytes

dropped-cells-here : (n at : ℕ) (r : Run) (rs : List Run) (t : Bool) → t ≡ eqb (length r.bytes) n → r.start ≡ at → n ≤ length r.bytes
    → drop n (cells_from at (r ∷ rs)) ≡ cells_from (at + n) (cond t rs (record { start = r.start + n; bytes = drop n r.bytes } ∷ rs))
dropped-cells-here n at r rs true t e h =
    let rest = cells_from (r.start + length r.bytes) rs in
    let none : r.start - at ≡ 0 = omega (arith, e) in
    let all : length r.bytes ≡ n = grind (arith, nat_tests) in
    let last : r.start + length r.bytes ≡ at + n = omega (arith, e, all) in
    ap (λ (k : ℕ). drop n (gap k (held r.bytes rest))) none
    ∙ (held-drop n r.bytes rest h
    ∙ (ap (λ (xs : List ℕ). held xs rest) (drop_all n r.bytes (omega (arith, all)))
    ∙ ap (λ (k : ℕ). cells_from k rs) last))
dropped-cells-here n at r rs false t e h =
    let rest = cells_from (r.start + length r.bytes) rs in
    let none : r.start - at ≡ 0 = omega (arith, e) in
    let gone : r.start + n - (at + n) ≡ 0 = omega (arith, e) in
    let behind : r.start + length r.bytes ≡ r.start + n + length (drop n r.bytes) = omega (arith, h, length-drop n r.bytes) in
    ap (λ (k : ℕ). drop n (gap k (held r.bytes rest))) none
    ∙ (held-drop n r.bytes rest h
    ∙ (ap (λ (k : ℕ). held (drop n r.bytes) (cells_from k rs)) behind
    ∙ ap (λ (k : ℕ). gap k (held (drop n r.bytes) (cells_from (r.start + n + length (drop n r.bytes)) rs))) (sym gone)))

dropped-spaced-here : (n at high : ℕ) (r : Run) (rs : List Run) (t : Bool) → t ≡ eqb (length r.bytes) n → r.start ≡ at → n ≤ length r.bytes
    → IsSpaced at high (r ∷ rs) → IsSpaced (at + n) high (cond t rs (record { start = r.start + n; bytes = drop n r.bytes } ∷ rs))
dropped-spaced-here n at high r rs true t e w h =
    let all : length r.bytes ≡ n = grind (arith, nat_tests) in
    spaced-lower (r.start + length r.bytes + 1) (at + n) high rs (omega (arith, e, all)) h.2
dropped-spaced-here n at high r rs false t e w h =
    let some : length r.bytes ≢ n = grind (arith, nat_tests) in
    let behind : r.start + length r.bytes + 1 ≡ r.start + n + length (drop n r.bytes) + 1 = omega (arith, w, length-drop n r.bytes) in
    (omega (arith, e), omega (arith, w, some, length-drop n r.bytes), subst (λ (k : ℕ). IsSpaced k high rs) behind h.2)

-- bytes can be taken in front only where a run begins there
front-here : (at high n : ℕ) (r : Run) (rs : List Run) → IsSpaced at high (r ∷ rs) → 0 < n → n ≤ length (front_of at (r ∷ rs)) → (r.start ≡ at) × (n ≤ length r.bytes)
front-here at high n r rs h some w =
    elim (starts at high r rs h) [
      | inl e ↦ let f = ap length (front-chosen true at r rs e.1) in (e.0, omega (arith, f, w))
      | inr e ↦ let f = ap length (front-chosen false at r rs e.1) in absurd (omega (arith, f, some, w))
    ]

dropped-some-cells : (n at high : ℕ) (rs : List Run) → IsSpaced at high rs → 0 < n → n ≤ length (front_of at rs) → drop n (cells_from at rs) ≡ cells_from (at + n) (dropped_some n rs)
dropped-some-cells n at high [] h some w = absurd (omega (arith, some, w))
dropped-some-cells n at high (r ∷ rs) h some w =
    let e = front-here at high n r rs h some w in
    dropped-cells-here n at r rs (eqb (length r.bytes) n) refl e.0 e.1

dropped-some-spaced : (n at high : ℕ) (rs : List Run) → IsSpaced at high rs → 0 < n → n ≤ length (front_of at rs) → IsSpaced (at + n) high (dropped_some n rs)
dropped-some-spaced n at high [] h some w = absurd (omega (arith, some, w))
dropped-some-spaced n at high (r ∷ rs) h some w =
    let e = front-here at high n r rs h some w in
    dropped-spaced-here n at high r rs (eqb (length r.bytes) n) refl e.0 e.1 h

pub dropped-cells : (n at high : ℕ) (rs : List Run) → IsSpaced at high rs → n ≤ length (front_of at rs) → drop n (cells_from at rs) ≡ cells_from (at + n) (dropped n rs)
dropped-cells zero at high rs h w = let e : at ≡ at + zero = omega arith in ap (λ (k : ℕ). cells_from k rs) e
dropped-cells (suc n) at high rs h w =
    let no : eqb (suc n) 0 ≡ false = grind (arith, nat_tests) in
    dropped-some-cells (suc n) at high rs h (omega arith) w ∙ ap (λ (t : Bool). cells_from (at + suc n) (cond t rs (dropped_some (suc n) rs))) (sym no)

pub dropped-spaced : (n at high : ℕ) (rs : List Run) → IsSpaced at high rs → n ≤ length (front_of at rs) → IsSpaced (at + n) high (dropped n rs)
dropped-spaced zero at high rs h w = spaced-lower at (at + zero) high rs (omega arith) h
dropped-spaced (suc n) at high rs h w =
    let no : eqb (suc n) 0 ≡ false = grind (arith, nat_tests) in
    subst (λ (t : Bool). IsSpaced (at + suc n) high (cond t rs (dropped_some (suc n) rs))) (sym no) (dropped-some-spaced (suc n) at high rs h (omega arith) w)

pub front-bytes : (n at high : ℕ) (rs : List Run) → IsSpaced at high rs → n ≤ length (front_of at rs) → bytes (take n (cells_from at rs)) ≡ take n (front_of at rs)
front-bytes zero at high rs h w = refl
front-bytes (suc n) at high [] h w = absurd (omega (arith, w))
front-bytes (suc n) at high (r ∷ rs) h w =
    elim (starts at high r rs h) [
      | inl e ↦
          let f = front-chosen true at r rs e.1 in
          let none : r.start - at ≡ 0 = omega (arith, e.0) in
          let within : suc n ≤ length r.bytes = omega (arith, w, ap length f) in
          let rest = cells_from (r.start + length r.bytes) rs in
          ap (λ (k : ℕ). bytes (take (suc n) (gap k (held r.bytes rest)))) none ∙ (held-bytes (suc n) r.bytes rest within ∙ ap (take (suc n)) (sym f))
      | inr e ↦ let f = ap length (front-chosen false at r rs e.1) in absurd (omega (arith, f, w))
    ]

-- the runs themselves

abbrev pub shown : Run → ℕ × List ℕ
shown r = (r.start, r.bytes)

gap-runs-of : (n at : ℕ) (cs : Cells) → runs_of at (gap n cs) ≡ runs_of (at + n) cs
gap-runs-of zero at cs = let e : at ≡ at + zero = omega arith in ap (λ (k : ℕ). runs_of k cs) e
gap-runs-of (suc n) at cs = let e : at + 1 + n ≡ at + suc n = omega arith in gap-runs-of n (at + 1) cs ∙ ap (λ (k : ℕ). runs_of k cs) e

grown-alone : (at x high : ℕ) (rs : List Run) → IsSpaced (at + 1 + 1) high rs → grown at x (map shown rs) ≡ (at, x ∷ []) ∷ map shown rs
grown-alone at x high [] h = refl
grown-alone at x high (r ∷ rs) h =
    let no : eqb r.start (at + 1) ≡ false = grind (arith, nat_tests, h.0) in
    ap (λ (t : Bool). cond t ((at, x ∷ r.bytes) ∷ map shown rs) ((at, x ∷ []) ∷ shown r ∷ map shown rs)) no

held-runs-of : (b : ℕ) (bs : List ℕ) (at high : ℕ) (rs : List Run) (cs : Cells) → IsSpaced (at + length (b ∷ bs) + 1) high rs → runs_of (at + length (b ∷ bs)) cs ≡ map shown rs
    → runs_of at (held (b ∷ bs) cs) ≡ (at, b ∷ bs) ∷ map shown rs
held-runs-of b [] at high rs cs h e =
    ap (grown at b) e ∙ grown-alone at b high rs h
held-runs-of b (d ∷ bs) at high rs cs h e =
    let next : at + length (b ∷ d ∷ bs) ≡ at + 1 + length (d ∷ bs) = omega arith in
    let next' : at + length (b ∷ d ∷ bs) + 1 ≡ at + 1 + length (d ∷ bs) + 1 = omega arith in
    let rest = held-runs-of d bs (at + 1) high rs cs (subst (λ (k : ℕ). IsSpaced k high rs) next' h) (ap (λ (k : ℕ). runs_of k cs) (sym next) ∙ e) in
    let yes : eqb (at + 1) (at + 1) ≡ true = grind (arith, nat_tests) in
    ap (grown at b) rest ∙ ap (λ (t : Bool). cond t ((at, b ∷ d ∷ bs) ∷ map shown rs) ((at, b ∷ []) ∷ (at + 1, d ∷ bs) ∷ map shown rs)) yes

some-runs-of : (bs : List ℕ) (at high : ℕ) (rs : List Run) (cs : Cells) → 0 < length bs → IsSpaced (at + length bs + 1) high rs → runs_of (at + length bs) cs ≡ map shown rs
    → runs_of at (held bs cs) ≡ (at, bs) ∷ map shown rs
some-runs-of [] at high rs cs some h e = absurd (omega (arith, some))
some-runs-of (b ∷ bs) at high rs cs some h e = held-runs-of b bs at high rs cs h e

pub cells-runs : (at high : ℕ) (rs : List Run) → IsSpaced at high rs → runs_of at (cells_from at rs) ≡ map shown rs
cells-runs at high [] h = refl
cells-runs at high (r ∷ rs) h =
    let rest = cells_from (r.start + length r.bytes) rs in
    let here : at + (r.start - at) ≡ r.start = omega (arith, h.0) in
    gap-runs-of (r.start - at) at (held r.bytes rest)
    ∙ (ap (λ (k : ℕ). runs_of k (held r.bytes rest)) here
    ∙ some-runs-of r.bytes r.start high rs rest h.1 h.2
    (cells-runs (r.start + length r.bytes) high rs (spaced-lower (r.start + length r.bytes + 1) (r.start + length r.bytes) high rs (omega arith) h.2)))

pub map-get : (rs : List Run) (i : ℕ) (d : Run) → i < length rs → slice_get (map shown rs) i ≡ Some (shown (get_or rs i d))
map-get [] i d h = absurd (omega (arith, h))
map-get (r ∷ rs) zero d h = refl
map-get (r ∷ rs) (suc i) d h = map-get rs i d (omega (arith, h))
