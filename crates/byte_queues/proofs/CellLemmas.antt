-- Gaps and held bytes as cells: what is counted in them, and what lies over them.
use Rattle.std.proofs.Common.{◌≡◌, ℕ, ◌+◌, ◌-◌, ◌<◌, ◌≤◌, List, [], ◌∷◌, ◌++◌, None, Some, Bool, true, false, length, take, drop, refl, sym, ap, ◌∙◌, arith}
use Rattle.std.specs.Prelude.{suc, zero}
use Rattle.byte_queues.specs.ReceiveQueue.{Cells, gap, held, front, runs, bytes, over_cells, cells_at}

pub gap-more : (m n : ℕ) (cs : Cells) → gap (m + n) cs ≡ gap m (gap n cs)
gap-more zero n cs = let e : zero + n ≡ n = omega arith in ap (λ (k : ℕ). gap k cs) e
gap-more (suc m) n cs = let e : suc m + n ≡ suc (m + n) = omega arith in ap (λ (k : ℕ). gap k cs) e ∙ ap (λ (ds : Cells). None ∷ ds) (gap-more m n cs)

pub held-append : (xs ys : List ℕ) (cs : Cells) → held (xs ++ ys) cs ≡ held xs (held ys cs)
held-append [] ys cs = refl
held-append (x ∷ xs) ys cs = ap (λ (ds : Cells). Some x ∷ ds) (held-append xs ys cs)

pub cells-text : (n : ℕ) (text : List ℕ) → 0 < length text → cells_at n text ≡ gap n (held text [])
cells-text n [] h = absurd (omega (arith, h))
cells-text n (x ∷ xs) h = refl

-- counts

pub gap-front : (n : ℕ) (cs : Cells) → 0 < n → front (gap n cs) ≡ 0
gap-front zero cs h = absurd (omega (arith, h))
gap-front (suc n) cs h = refl

pub held-front : (bs : List ℕ) (cs : Cells) → front (held bs cs) ≡ length bs + front cs
held-front [] cs = omega arith
held-front (b ∷ bs) cs = let e = held-front bs cs in omega (arith, e)

none-runs : (n : ℕ) (cs : Cells) → runs false (gap n cs) ≡ runs false cs
none-runs zero cs = refl
none-runs (suc n) cs = none-runs n cs

pub gap-runs : (b : Bool) (n : ℕ) (cs : Cells) → 0 < n → runs b (gap n cs) ≡ runs false cs
gap-runs b zero cs h = absurd (omega (arith, h))
gap-runs true (suc n) cs h = none-runs n cs
gap-runs false (suc n) cs h = none-runs n cs

pub held-runs : (bs : List ℕ) (cs : Cells) → runs true (held bs cs) ≡ runs true cs
held-runs [] cs = refl
held-runs (b ∷ bs) cs = held-runs bs cs

pub held-runs-new : (bs : List ℕ) (cs : Cells) → 0 < length bs → runs false (held bs cs) ≡ suc (runs true cs)
held-runs-new [] cs h = absurd (omega (arith, h))
held-runs-new (b ∷ bs) cs h = ap suc (held-runs bs cs)

pub runs-drop : (n : ℕ) (cs : Cells) → n ≤ front cs → runs true (drop n cs) ≡ runs true cs
runs-drop zero cs h = refl
runs-drop (suc n) [] h = refl
runs-drop (suc n) (None ∷ cs) h = absurd (omega (arith, h))
runs-drop (suc n) (Some x ∷ cs) h = runs-drop n cs (omega (arith, h))

pub front-drop : (n : ℕ) (cs : Cells) → n ≤ front cs → n + front (drop n cs) ≡ front cs
front-drop zero cs h = omega arith
front-drop (suc n) [] h = absurd (omega (arith, h))
front-drop (suc n) (None ∷ cs) h = absurd (omega (arith, h))
front-drop (suc n) (Some x ∷ cs) h = let e = front-drop n cs (omega (arith, h)) in omega (arith, e)

pub held-drop : (n : ℕ) (bs : List ℕ) (cs : Cells) → n ≤ length bs → drop n (held bs cs) ≡ held (drop n bs) cs
held-drop zero bs cs h = refl
held-drop (suc n) [] cs h = absurd (omega (arith, h))
held-drop (suc n) (b ∷ bs) cs h = held-drop n bs cs (omega (arith, h))

pub held-bytes : (n : ℕ) (bs : List ℕ) (cs : Cells) → n ≤ length bs → bytes (take n (held bs cs)) ≡ take n bs
held-bytes zero bs cs h = refl
held-bytes (suc n) [] cs h = absurd (omega (arith, h))
held-bytes (suc n) (b ∷ bs) cs h = ap (λ (xs : List ℕ). b ∷ xs) (held-bytes n bs cs (omega (arith, h)))

pub front-over : (cs ds : Cells) → front cs ≤ front (over_cells cs ds)
front-over [] ds = omega arith
front-over (None ∷ cs) ds = omega arith
front-over (Some x ∷ cs) [] = omega arith
front-over (Some x ∷ cs) (d ∷ ds) = let e = front-over cs ds in omega (arith, e)

-- what lies over what

pub over-none : (cs : Cells) → over_cells cs [] ≡ cs
over-none [] = refl
over-none (c ∷ cs) = refl

pub over-gap : (n : ℕ) (cs ds : Cells) → over_cells (gap n cs) (gap n ds) ≡ gap n (over_cells cs ds)
over-gap zero cs ds = refl
over-gap (suc n) cs ds = ap (λ (es : Cells). None ∷ es) (over-gap n cs ds)

pub over-held : (bs : List ℕ) (cs ds : Cells) → over_cells (held bs cs) (gap (length bs) ds) ≡ held bs (over_cells cs ds)
over-held [] cs ds = refl
over-held (b ∷ bs) cs ds = ap (λ (es : Cells). Some b ∷ es) (over-held bs cs ds)

-- a text in a gap
pub over-part : (k : ℕ) (text : List ℕ) (cs : Cells) → k ≤ length text
    → over_cells (gap k cs) (held text []) ≡ held (take k text) (over_cells cs (held (drop k text) []))
over-part zero text cs h = refl
over-part (suc k) [] cs h = absurd (omega (arith, h))
over-part (suc k) (x ∷ xs) cs h = ap (λ (es : Cells). Some x ∷ es) (over-part k xs cs (omega (arith, h)))

pub over-under : (text : List ℕ) (cs : Cells) → over_cells (gap (length text) cs) (held text []) ≡ held text cs
over-under [] cs = over-none cs
over-under (x ∷ xs) cs = ap (λ (es : Cells). Some x ∷ es) (over-under xs cs)

drop-none : (n : ℕ) → drop {A = ℕ} n [] ≡ []
drop-none zero = refl
drop-none (suc n) = refl

-- a text on held bytes, from place k on
pub over-bytes : (bs : List ℕ) (k : ℕ) (text : List ℕ) (cs : Cells) → k ≤ length bs
    → over_cells (held bs cs) (gap k (held text [])) ≡ held bs (over_cells cs (held (drop (length bs - k) text) []))
over-bytes [] zero text cs h = refl
over-bytes [] (suc k) text cs h = absurd (omega (arith, h))
over-bytes (b ∷ bs) zero [] cs h =
    ap (λ (es : Cells). held (b ∷ bs) es) (sym (over-none cs) ∙ ap (λ (xs : List ℕ). over_cells cs (held xs [])) (sym (drop-none (length (b ∷ bs) - 0))))
over-bytes (b ∷ bs) zero (x ∷ xs) cs h =
    let e : length bs - 0 ≡ length bs = omega arith in
    let f : length (b ∷ bs) - 0 ≡ suc (length bs) = omega arith in
    ap (λ (es : Cells). Some b ∷ es) (over-bytes bs zero xs cs (omega arith))
    ∙ (ap (λ (k : ℕ). held (b ∷ bs) (over_cells cs (held (drop k xs) []))) e
    ∙ ap (λ (k : ℕ). held (b ∷ bs) (over_cells cs (held (drop k (x ∷ xs)) []))) (sym f))
over-bytes (b ∷ bs) (suc k) text cs h =
    let e : length bs - k ≡ length (b ∷ bs) - suc k = omega arith in
    ap (λ (es : Cells). Some b ∷ es) (over-bytes bs k text cs (omega (arith, h)))
    ∙ ap (λ (n : ℕ). held (b ∷ bs) (over_cells cs (held (drop n text) []))) e
