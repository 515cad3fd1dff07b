-- A text and the runs that it touches as one run: the cells for which it stands.
use Rattle.std.proofs.Common.{◌≡◌, ℕ, ◌+◌, ◌-◌, ◌<◌, ◌≤◌, List, [], ◌∷◌, ◌++◌, Bool, true, false, cond, leb, ltb, length, take, drop, min, refl, sym, ap, ◌∙◌, subst, arith, length-drop, length-append, append_assoc, drop-cons, get_or, eqb, ◌⊎◌, inl, inr}
use Rattle.std.specs.Prelude.{suc, zero}
use Rattle.std.proofs.lemmas.Bool.Decides.{nat_tests, leb_tells}
use Rattle.std.proofs.lemmas.List.{drop-drop, drop-take, length-take-le, take-take}
use Rattle.byte_queues.specs.ReceiveQueue.{Cells, gap, held, over_cells, runs}
use Rattle.std.specs.List.{slice_range}
use Rattle.byte_queues.specs.Runs.{end_of, front_of, cells_from, IsSpaced, count_before, count_up_to, part, fill, start_of, joined_run, joined}
use Rattle.byte_queues.specs.declared.run.Run.{Run}
use Rattle.byte_queues.proofs.CellLemmas.{gap-more, held-append, over-gap, over-held, over-part, over-under, over-bytes}
use Rattle.byte_queues.proofs.RunLemmas.{spaced-low, spaced-lower, runs-is}

-- the tests of a first run

up-yes : (stop : ℕ) (r : Run) (rs : List Run) → r.start ≤ stop → count_up_to stop (r ∷ rs) ≡ suc (count_up_to stop rs)
up-yes stop r rs h =
    let t : leb r.start stop ≡ true = grind (arith, nat_tests) in
    ap (λ (c : Bool). cond c (suc (count_up_to stop rs)) 0) t

up-no : (stop : ℕ) (r : Run) (rs : List Run) → stop < r.start → count_up_to stop (r ∷ rs) ≡ 0
up-no stop r rs h =
    let t : leb r.start stop ≡ false = grind (arith, nat_tests) in
    ap (λ (c : Bool). cond c (suc (count_up_to stop rs)) 0) t

before-yes : (at : ℕ) (r : Run) (rs : List Run) → end_of r < at → count_before at (r ∷ rs) ≡ suc (count_before at rs)
before-yes at r rs h =
    let t : ltb (end_of r) at ≡ true = grind (arith, nat_tests) in
    ap (λ (c : Bool). cond c (suc (count_before at rs)) 0) t

before-no : (at : ℕ) (r : Run) (rs : List Run) → at ≤ end_of r → count_before at (r ∷ rs) ≡ 0
before-no at r rs h =
    let t : ltb (end_of r) at ≡ false = grind (arith, nat_tests) in
    ap (λ (c : Bool). cond c (suc (count_before at rs)) 0) t

le-or : (m n : ℕ) → (m ≤ n) ⊎ (n < m)
le-or m n = elim (leb_tells m n) [ inl e ↦ inl e.1 | inr e ↦ inr e.1 ]

-- the cells of a text that lies on and between runs

-- the text from a position on
abbrev rest_of : ℕ → ℕ → List ℕ → List ℕ
rest_of q at text = drop (q - at) text

-- what stands behind the bytes that fill up to the n-th run
abbrev filled_cells : ℕ → ℕ → List ℕ → ℕ → List Run → Cells
filled_cells q at text n rs = held (fill q at text (take n rs)) (cells_from (q + length (fill q at text (take n rs))) (drop n rs))

fill-none : (q at : ℕ) (text : List ℕ) (r : Run) (rs : List Run) → at ≤ q → q ≤ r.start → at + length text < r.start
    → over_cells (cells_from q (r ∷ rs)) (held (rest_of q at text) []) ≡ held (rest_of q at text) (cells_from (q + length (rest_of q at text)) (r ∷ rs))
fill-none q at text r rs a h b =
    let t = rest_of q at text in
    let behind = held r.bytes (cells_from (r.start + length r.bytes) rs) in
    let long : length t ≡ length text - (q - at) = length-drop (q - at) text in
    let split : r.start - q ≡ length t + (r.start - (q + length t)) = omega (arith, long) in
    ap (λ (k : ℕ). over_cells (gap k behind) (held t [])) split
    ∙ (ap (λ (cs : Cells). over_cells cs (held t [])) (gap-more (length t) (r.start - (q + length t)) behind)
    ∙ over-under t (gap (r.start - (q + length t)) behind))

part-rest : (q at to : ℕ) (text : List ℕ) → at ≤ q → q ≤ to → take (to - q) (rest_of q at text) ≡ part at text q to
part-rest q at to text a h =
    let e : to - at ≡ (q - at) + (to - q) = omega arith in
    sym (drop-take (q - at) (to - q) text) ∙ ap (λ (k : ℕ). drop (q - at) (take k text)) (sym e)

rest-rest : (q at k n to : ℕ) (text : List ℕ) → at ≤ q → q + k + n ≡ to → drop n (drop k (rest_of q at text)) ≡ rest_of to at text
rest-rest q at k n to text a e =
    let f : (q - at) + k + n ≡ to - at = omega arith in
    ap (drop n) (drop-drop k (q - at) text) ∙ (drop-drop n ((q - at) + k) text ∙ ap (λ (j : ℕ). drop j text) f)

pub fill-over : (q at high : ℕ) (text : List ℕ) (rs : List Run) → at ≤ q → IsSpaced q high rs
    → over_cells (cells_from q rs) (held (rest_of q at text) []) ≡ filled_cells q at text (count_up_to (at + length text) rs) rs
fill-over q at high text [] a h = refl
fill-over q at high text (r ∷ rs) a h =
    let stop = at + length text in
    let n = count_up_to stop rs in
    let goes : ℕ → Cells = λ (m : ℕ). filled_cells q at text m (r ∷ rs) in
    elim (le-or r.start stop) [
      | inl e ↦
          let t = rest_of q at text in
          let k = r.start - q in
          let long : length t ≡ length text - (q - at) = length-drop (q - at) text in
          let within : k ≤ length t = omega (arith, long, e, h.0) in
          let behind = cells_from (r.start + length r.bytes) rs in
          let more = fill (r.start + length r.bytes) at text (take n rs) in
          let whole = part at text q r.start ++ (r.bytes ++ more) in
          let here : take k t ≡ part at text q r.start = part-rest q at r.start text a h.0 in
          let size : length (part at text q r.start) ≡ k = ap length (sym here) ∙ length-take-le k t within in
          let later : drop (length r.bytes - 0) (drop k t) ≡ rest_of (r.start + length r.bytes) at text = rest-rest q at k (length r.bytes - 0) (r.start + length r.bytes) text a (omega (arith, h.0)) in
          let ih = fill-over (r.start + length r.bytes) at high text rs (omega (arith, a, h.0)) (spaced-lower (r.start + length r.bytes + 1) (r.start + length r.bytes) high rs (omega arith) h.2) in
          let place : r.start + length r.bytes + length more ≡ q + length whole =
          let l1 = length-append (part at text q r.start) (r.bytes ++ more) in
          let l2 = length-append r.bytes more in
          omega (arith, l1, l2, size, h.0) in
          over-part k t (held r.bytes behind) within
          ∙ (ap (λ (cs : Cells). held (take k t) cs) (over-bytes r.bytes 0 (drop k t) behind (omega arith))
          ∙ (ap (λ (xs : List ℕ). held (take k t) (held r.bytes (over_cells behind (held xs [])))) later
          ∙ (ap (λ (cs : Cells). held (take k t) (held r.bytes cs)) ih
          ∙ (ap (λ (xs : List ℕ). held xs (held r.bytes (held more (cells_from (r.start + length r.bytes + length more) (drop n rs))))) here
          ∙ (ap (λ (cs : Cells). held (part at text q r.start) cs) (sym (held-append r.bytes more (cells_from (r.start + length r.bytes + length more) (drop n rs))))
          ∙ (sym (held-append (part at text q r.start) (r.bytes ++ more) (cells_from (r.start + length r.bytes + length more) (drop n rs)))
          ∙ (ap (λ (j : ℕ). held whole (cells_from j (drop n rs))) place
          ∙ ap goes (sym (up-yes stop r rs e)))))))))
      | inr e ↦ fill-none q at text r rs a h.0 e ∙ ap goes (sym (up-no stop r rs e))
    ]

-- the cells of a whole queue with a text

abbrev text_cells : ℕ → ℕ → List ℕ → Cells
text_cells p at text = gap (at - p) (held text [])

-- the runs with a text, where i of them stand before it
abbrev with_text : ℕ → List ℕ → ℕ → List Run → List Run
with_text at text i rs = joined i (count_up_to (at + length text) (drop i rs)) at text rs

-- a gap and a text that reaches beyond it
over-shifted : (p s at : ℕ) (cs : Cells) (text : List ℕ) → p ≤ s → s ≤ at
    → over_cells (gap (s - p) cs) (text_cells p at text) ≡ gap (s - p) (over_cells cs (text_cells s at text))
over-shifted p s at cs text h w =
    let e : at - p ≡ (s - p) + (at - s) = omega arith in
    ap (λ (k : ℕ). over_cells (gap (s - p) cs) (gap k (held text []))) e
    ∙ (ap (λ (ds : Cells). over_cells (gap (s - p) cs) ds) (gap-more (s - p) (at - s) (held text []))
    ∙ over-gap (s - p) cs (gap (at - s) (held text [])))

-- a text behind a run
over-behind : (r : Run) (at : ℕ) (cs : Cells) (text : List ℕ) → end_of r ≤ at
    → over_cells (held r.bytes cs) (text_cells r.start at text) ≡ held r.bytes (over_cells cs (text_cells (end_of r) at text))
over-behind r at cs text h =
    let e : at - r.start ≡ length r.bytes + (at - end_of r) = omega arith in
    ap (λ (k : ℕ). over_cells (held r.bytes cs) (gap k (held text []))) e
    ∙ (ap (λ (ds : Cells). over_cells (held r.bytes cs) ds) (gap-more (length r.bytes) (at - end_of r) (held text []))
    ∙ over-held r.bytes cs (gap (at - end_of r) (held text [])))

start-above : (at n : ℕ) (r : Run) (rs : List Run) → at ≤ r.start → start_of at (take n (r ∷ rs)) ≡ at
start-above at zero r rs h = refl
start-above at (suc n) r rs h = omega (arith, h)

-- no run stands before the text, and the first one begins behind its start
join-above : (p at high : ℕ) (text : List ℕ) (r : Run) (rs : List Run) → IsSpaced p high (r ∷ rs) → p ≤ at → at < r.start
    → over_cells (cells_from p (r ∷ rs)) (text_cells p at text) ≡ cells_from p (with_text at text 0 (r ∷ rs))
join-above p at high text r rs h a b =
    let n = count_up_to (at + length text) (r ∷ rs) in
    let behind = held r.bytes (cells_from (r.start + length r.bytes) rs) in
    let e : r.start - p ≡ (at - p) + (r.start - at) = omega arith in
    let none : at - at ≡ 0 = omega arith in
    let start = start-above at n r rs (omega (arith, b)) in
    ap (λ (k : ℕ). over_cells (gap k behind) (text_cells p at text)) e
    ∙ (ap (λ (cs : Cells). over_cells cs (text_cells p at text)) (gap-more (at - p) (r.start - at) behind)
    ∙ (over-gap (at - p) (cells_from at (r ∷ rs)) (held text [])
    ∙ (ap (λ (k : ℕ). gap (at - p) (over_cells (cells_from at (r ∷ rs)) (held (drop k text) []))) (sym none)
    ∙ (ap (gap (at - p)) (fill-over at at high text (r ∷ rs) (omega arith) (omega (arith, b), h.1, h.2))
    ∙ ap (λ (s : ℕ). gap (s - p) (held (fill s at text (take n (r ∷ rs))) (cells_from (s + length (fill s at text (take n (r ∷ rs)))) (drop n (r ∷ rs))))) (sym start)))))

-- no run stands before the text, which begins on the first one or right behind it
join-touching : (p at high : ℕ) (text : List ℕ) (r : Run) (rs : List Run) → IsSpaced p high (r ∷ rs) → p ≤ at → r.start ≤ at → at ≤ end_of r
    → over_cells (cells_from p (r ∷ rs)) (text_cells p at text) ≡ cells_from p (with_text at text 0 (r ∷ rs))
join-touching p at high text r rs h a b w =
    let stop = at + length text in
    let n = count_up_to stop rs in
    let behind = cells_from (r.start + length r.bytes) rs in
    let last = r.start + length r.bytes in
    let more = fill last at text (take n rs) in
    let left : length r.bytes - (at - r.start) ≡ last - at = omega arith in
    let ih = fill-over last at high text rs w (spaced-lower (last + 1) last high rs (omega arith) h.2) in
    let start : min at r.start ≡ r.start = omega (arith, b) in
    let none : r.start - at ≡ 0 = omega (arith, b) in
    let whole = r.bytes ++ more in
    let place : last + length more ≡ r.start + length whole = let l = length-append r.bytes more in omega (arith, l) in
    let wide : (k : ℕ) → k ≡ 0 → whole ≡ drop k (take k text) ++ whole = λ (k : ℕ) (z : k ≡ 0). ap (λ (j : ℕ). drop j (take j text) ++ whole) (sym z) in
    let goes : ℕ → Cells = λ (m : ℕ). cells_from p (joined 0 m at text (r ∷ rs)) in
    over-shifted p r.start at (held r.bytes behind) text h.0 b
    ∙ (ap (gap (r.start - p)) (over-bytes r.bytes (at - r.start) text behind (omega (arith, w, b)))
    ∙ (ap (λ (k : ℕ). gap (r.start - p) (held r.bytes (over_cells behind (held (drop k text) [])))) left
    ∙ (ap (λ (cs : Cells). gap (r.start - p) (held r.bytes cs)) ih
    ∙ (ap (gap (r.start - p)) (sym (held-append r.bytes more (cells_from (last + length more) (drop n rs))))
    ∙ (ap (λ (j : ℕ). gap (r.start - p) (held whole (cells_from j (drop n rs)))) place
    ∙ (ap (λ (xs : List ℕ). gap (r.start - p) (held xs (cells_from (r.start + length xs) (drop n rs)))) (wide (r.start - at) none)
    ∙ (ap (λ (s : ℕ). gap (s - p) (held (fill s at text (r ∷ take n rs)) (cells_from (s + length (fill s at text (r ∷ take n rs))) (drop n rs)))) (sym start)
    ∙ ap goes (sym (up-yes stop r rs (omega (arith, b)))))))))))

pub join-cells : (p at high : ℕ) (text : List ℕ) (rs : List Run) → IsSpaced p high rs → p ≤ at
    → over_cells (cells_from p rs) (text_cells p at text) ≡ cells_from p (with_text at text (count_before at rs) rs)
join-cells p at high text [] h a =
    let none : at - at ≡ 0 = omega arith in
    ap (λ (k : ℕ). gap (at - p) (held (drop k text) [])) (sym none)
join-cells p at high text (r ∷ rs) h a =
    let goes : ℕ → Cells = λ (i : ℕ). cells_from p (with_text at text i (r ∷ rs)) in
    elim (le-or at (end_of r)) [
      | inl e ↦ elim (le-or r.start at) [
        | inl b ↦ join-touching p at high text r rs h a b e ∙ ap goes (sym (before-no at r rs e))
        | inr b ↦ join-above p at high text r rs h a b ∙ ap goes (sym (before-no at r rs e))
      ]
      | inr e ↦
          let behind = cells_from (r.start + length r.bytes) rs in
          let ih = join-cells (r.start + length r.bytes) at high text rs (spaced-lower (r.start + length r.bytes + 1) (r.start + length r.bytes) high rs (omega arith) h.2) (omega (arith, e)) in
          over-shifted p r.start at (held r.bytes behind) text h.0 (omega (arith, e))
          ∙ (ap (gap (r.start - p)) (over-behind r at behind text (omega (arith, e)))
          ∙ (ap (λ (cs : Cells). gap (r.start - p) (held r.bytes cs)) ih
          ∙ ap goes (sym (before-yes at r rs e))))
    ]

-- the order of the runs with a text

fill-size : (q at : ℕ) (text : List ℕ) (r : Run) (ts : List Run) → at ≤ q → q ≤ r.start → r.start ≤ at + length text
    → q + length (fill q at text (r ∷ ts)) ≡ end_of r + length (fill (end_of r) at text ts)
fill-size q at text r ts a h e =
    let long : length (drop (q - at) text) ≡ length text - (q - at) = length-drop (q - at) text in
    let here = part-rest q at r.start text a h in
    let size : length (part at text q r.start) ≡ r.start - q = ap length (sym here) ∙ length-take-le (r.start - q) (drop (q - at) text) (omega (arith, long, e)) in
    let more = fill (end_of r) at text ts in
    let l1 = length-append (part at text q r.start) (r.bytes ++ more) in
    let l2 = length-append r.bytes more in
    omega (arith, l1, l2, size, h)

fill-here : (at : ℕ) (text : List ℕ) (r : Run) (ts : List Run) → r.start ≤ at
    → r.start + length (fill r.start at text (r ∷ ts)) ≡ end_of r + length (fill (end_of r) at text ts)
fill-here at text r ts h =
    let more = fill (end_of r) at text ts in
    let l0 = length-drop (r.start - at) (take (r.start - at) text) in
    let l1 = length-append (part at text r.start r.start) (r.bytes ++ more) in
    let l2 = length-append r.bytes more in
    let none : (k : ℕ) → k ≡ 0 → length (drop k (take k text)) ≡ 0 = λ (k : ℕ) (z : k ≡ 0). ap (λ (j : ℕ). length (drop j (take j text))) z in
    let size : length (part at text r.start r.start) ≡ 0 = none (r.start - at) (omega (arith, h)) in
    omega (arith, l1, l2, size)

fill-spaced : (q at high : ℕ) (text : List ℕ) (rs : List Run) → at ≤ q → IsSpaced (q + 1) high rs → at + length text + 1 ≤ high
    → let n = count_up_to (at + length text) rs in IsSpaced (q + length (fill q at text (take n rs)) + 1) high (drop n rs)
fill-spaced q at high text [] a h w = let l = length-drop (q - at) text in omega (arith, l, h, w)
fill-spaced q at high text (r ∷ rs) a h w =
    let stop = at + length text in
    let n = count_up_to stop rs in
    let goal : ℕ → Type 0 = λ (m : ℕ). IsSpaced (q + length (fill q at text (take m (r ∷ rs))) + 1) high (drop m (r ∷ rs)) in
    elim (le-or r.start stop) [
      | inl e ↦
          let ih = fill-spaced (end_of r) at high text rs (omega (arith, a, h.0)) h.2 w in
          let size = fill-size q at text r (take n rs) a (omega (arith, h.0)) e in
          subst goal (sym (up-yes stop r rs e)) (subst (λ (k : ℕ). IsSpaced (k + 1) high (drop n rs)) (sym size) ih)
      | inr e ↦
          let l = length-drop (q - at) text in
          subst goal (sym (up-no stop r rs e)) (omega (arith, l, h.0, e), h.1, h.2)
    ]

some-append : (xs ys zs : List ℕ) → 0 < length ys → 0 < length (xs ++ (ys ++ zs))
some-append xs ys zs h = let l1 = length-append xs (ys ++ zs) in let l2 = length-append ys zs in omega (arith, l1, l2, h)

join-spaced-touching : (p at high : ℕ) (text : List ℕ) (r : Run) (rs : List Run) → IsSpaced p high (r ∷ rs) → p ≤ at → r.start ≤ at → at ≤ end_of r → at + length text + 1 ≤ high
    → IsSpaced p high (with_text at text 0 (r ∷ rs))
join-spaced-touching p at high text r rs h a b w most =
    let stop = at + length text in
    let n = count_up_to stop rs in
    let start : min at r.start ≡ r.start = omega (arith, b) in
    let ih = fill-spaced (end_of r) at high text rs w h.2 most in
    let size = fill-here at text r (take n rs) b in
    let here : IsSpaced p high (record { start = r.start; bytes = fill r.start at text (r ∷ take n rs) } ∷ drop n rs) =
    (h.0, some-append (part at text r.start r.start) r.bytes (fill (end_of r) at text (take n rs)) h.1, subst (λ (k : ℕ). IsSpaced (k + 1) high (drop n rs)) (sym size) ih) in
    subst (λ (m : ℕ). IsSpaced p high (joined 0 m at text (r ∷ rs))) (sym (up-yes stop r rs (omega (arith, b))))
    (subst (λ (s : ℕ). IsSpaced p high (record { start = s; bytes = fill s at text (r ∷ take n rs) } ∷ drop n rs)) (sym start) here)

fill-some : (s at n : ℕ) (text : List ℕ) (rs : List Run) → s ≤ at → 0 < length text → (low high : ℕ) → IsSpaced low high rs → 0 < length (fill s at text (take n rs))
fill-some s at zero text rs h some low high w = let l = length-drop (s - at) text in omega (arith, l, h, some)
fill-some s at (suc n) text [] h some low high w = let l = length-drop (s - at) text in omega (arith, l, h, some)
fill-some s at (suc n) text (r ∷ rs) h some low high w = some-append (part at text s r.start) r.bytes (fill (end_of r) at text (take n rs)) w.1

join-spaced-above : (p at high : ℕ) (text : List ℕ) (r : Run) (rs : List Run) → IsSpaced p high (r ∷ rs) → p ≤ at → at < r.start → 0 < length text → at + length text + 1 ≤ high
    → IsSpaced p high (with_text at text 0 (r ∷ rs))
join-spaced-above p at high text r rs h a b some most =
    let n = count_up_to (at + length text) (r ∷ rs) in
    let start = start-above at n r rs (omega (arith, b)) in
    let w : IsSpaced (at + 1) high (r ∷ rs) = (omega (arith, b), h.1, h.2) in
    let here : IsSpaced p high (record { start = at; bytes = fill at at text (take n (r ∷ rs)) } ∷ drop n (r ∷ rs)) =
    (a, fill-some at at n text (r ∷ rs) (omega arith) some (at + 1) high w, fill-spaced at at high text (r ∷ rs) (omega arith) w most) in
    subst (λ (s : ℕ). IsSpaced p high (record { start = s; bytes = fill s at text (take n (r ∷ rs)) } ∷ drop n (r ∷ rs))) (sym start) here

pub join-spaced : (p at high : ℕ) (text : List ℕ) (rs : List Run) → IsSpaced p high rs → p ≤ at → 0 < length text → at + length text + 1 ≤ high
    → IsSpaced p high (with_text at text (count_before at rs) rs)
join-spaced p at high text [] h a some most = let l = length-drop (at - at) text in (a, omega (arith, l, some), omega (arith, l, most))
join-spaced p at high text (r ∷ rs) h a some most =
    let goal : ℕ → Type 0 = λ (i : ℕ). IsSpaced p high (with_text at text i (r ∷ rs)) in
    elim (le-or at (end_of r)) [
      | inl e ↦ elim (le-or r.start at) [
        | inl b ↦ subst goal (sym (before-no at r rs e)) (join-spaced-touching p at high text r rs h a b e most)
        | inr b ↦ subst goal (sym (before-no at r rs e)) (join-spaced-above p at high text r rs h a b some most)
      ]
      | inr e ↦ subst goal (sym (before-yes at r rs e)) (h.0, h.1, join-spaced (end_of r + 1) at high text rs h.2 (omega (arith, e)) some most)
    ]

-- one of the runs is kept: the bytes before it and behind it

take-plus : (m n : ℕ) (xs : List Run) → take (m + n) xs ≡ take m xs ++ take n (drop m xs)
take-plus zero n xs = let e : zero + n ≡ n = omega arith in ap (λ (k : ℕ). take k xs) e
take-plus (suc m) n [] = let e : suc m + n ≡ suc (m + n) = omega arith in ap (λ (k : ℕ). take k []) e ∙ sym (take-nothing n)
  where
    take-nothing : (n : ℕ) → take {A = Run} n [] ≡ []
    take-nothing zero = refl
    take-nothing (suc n) = refl
take-plus (suc m) n (x ∷ xs) = let e : suc m + n ≡ suc (m + n) = omega arith in ap (λ (k : ℕ). take k (x ∷ xs)) e ∙ ap (λ (ys : List Run). x ∷ ys) (take-plus m n xs)

pub range-split : (a b c : ℕ) (xs : List Run) (d : Run) → a ≤ b → b < c → c ≤ length xs
    → slice_range xs a c ≡ slice_range xs a b ++ (get_or xs b d ∷ slice_range xs (b + 1) c)
range-split a b c xs d h w most =
    let k = c - (b + 1) in
    let size : c - a ≡ (b - a) + suc k = omega arith in
    let here : a + (b - a) ≡ b = omega arith in
    let next : suc b ≡ b + 1 = omega arith in
    ap (λ (n : ℕ). take n (drop a xs)) size
    ∙ (take-plus (b - a) (suc k) (drop a xs)
    ∙ (ap (λ (ys : List Run). take (b - a) (drop a xs) ++ take (suc k) ys) (drop-drop (b - a) a xs ∙ (ap (λ (n : ℕ). drop n xs) here ∙ drop-cons xs b d (omega (arith, w, most))))
    ∙ ap (λ (n : ℕ). take (b - a) (drop a xs) ++ (get_or xs b d ∷ take k (drop n xs))) next))

abbrev BeginBefore : ℕ → List Run → Type 0
BeginBefore top [] = Unit {0}
BeginBefore top (x ∷ xs) = (x.start ≤ top) × BeginBefore top xs

spaced-before : (low high : ℕ) (xs : List Run) (k : Run) (ys : List Run) → IsSpaced low high (xs ++ (k ∷ ys)) → (low ≤ k.start) × BeginBefore k.start xs
spaced-before low high [] k ys h = (h.0, tt)
spaced-before low high (x ∷ xs) k ys h =
    let e = spaced-before (x.start + length x.bytes + 1) high xs k ys h.2 in
    let b = e.0 in
    (omega (arith, b, h.0), (omega (arith, b), e.1))

fill-kept : (s at : ℕ) (text : List ℕ) (xs : List Run) (k : Run) (ys : List Run) → BeginBefore k.start xs
    → fill s at text (xs ++ (k ∷ ys)) ≡ fill s at (take (k.start - at) text) xs ++ (k.bytes ++ fill (end_of k) at text ys)
fill-kept s at text [] k ys h = refl
fill-kept s at text (x ∷ xs) k ys h =
    let cut = take (k.start - at) text in
    let rest = k.bytes ++ fill (end_of k) at text ys in
    let here : take (x.start - at) text ≡ take (x.start - at) cut = sym (take-take (x.start - at) (k.start - at) text (let b = h.0 in omega (arith, b))) in
    ap (λ (zs : List ℕ). drop (s - at) zs ++ (x.bytes ++ fill (end_of x) at text (xs ++ (k ∷ ys)))) here
    ∙ (ap (λ (zs : List ℕ). part at cut s x.start ++ (x.bytes ++ zs)) (fill-kept (end_of x) at text xs k ys h.1)
    ∙ (ap (λ (zs : List ℕ). part at cut s x.start ++ zs) (sym (append_assoc x.bytes (fill (end_of x) at cut xs) rest))
    ∙ sym (append_assoc (part at cut s x.start) (x.bytes ++ fill (end_of x) at cut xs) rest)))

spaced-drop : (n low high : ℕ) (rs : List Run) → IsSpaced low high rs → IsSpaced 0 high (drop n rs)
spaced-drop zero low high rs h = spaced-lower low 0 high rs (omega arith) h
spaced-drop (suc n) low high [] h = omega arith
spaced-drop (suc n) low high (r ∷ rs) h = spaced-drop n (r.start + length r.bytes + 1) high rs h.2

spaced-take : (n low high : ℕ) (rs : List Run) → IsSpaced low high rs → IsSpaced low high (take n rs)
spaced-take zero low high rs h = spaced-low low high rs h
spaced-take (suc n) low high [] h = h
spaced-take (suc n) low high (r ∷ rs) h = (h.0, h.1, spaced-take n (r.start + length r.bytes + 1) high rs h.2)

pub joined-kept : (a b c at high : ℕ) (text : List ℕ) (xs : List Run) (d f : Run) → a ≤ b → b < c → c ≤ length xs → IsSpaced 0 high xs
    → let k = get_or xs b d in let s = min at (get_or xs a f).start in
    joined_run at text (slice_range xs a c) ≡ record { start = s; bytes = (fill s at (take (k.start - at) text) (slice_range xs a b) ++ k.bytes) ++ fill (end_of k) at text (slice_range xs (b + 1) c) }
joined-kept a b c at high text xs d f h w most spaced =
    let k = get_or xs b d in
    let s = min at (get_or xs a f).start in
    let ranges = range-split a b c xs d h w most in
    let sorted = subst (IsSpaced 0 high) ranges (spaced-take (c - a) 0 high (drop a xs) (spaced-drop a 0 high xs spaced)) in
    let before = (spaced-before 0 high (slice_range xs a b) k (slice_range xs (b + 1) c) sorted).1 in
    let first : start_of at (slice_range xs a c) ≡ s = start-first a c xs f (omega (arith, h, w)) (omega (arith, h, w, most)) in
    let bytes = fill-kept s at text (slice_range xs a b) k (slice_range xs (b + 1) c) before in
    ap (λ (n : ℕ). record { start = n; bytes = fill n at text (slice_range xs a c) }) first
    ∙ (ap (λ (rs : List Run). record { start = s; bytes = fill s at text rs }) ranges
    ∙ ap (λ (zs : List ℕ). record { start = s; bytes = zs }) (bytes ∙ sym (append_assoc (fill s at (take (k.start - at) text) (slice_range xs a b)) k.bytes (fill (end_of k) at text (slice_range xs (b + 1) c)))))
  where
    start-first : (a c : ℕ) (xs : List Run) (f : Run) → a < c → c ≤ length xs → start_of at (slice_range xs a c) ≡ min at (get_or xs a f).start
    start-first a c xs f h w =
        let k = c - suc a in
        let size : c - a ≡ suc k = omega arith in
        ap (λ (n : ℕ). start_of at (take n (drop a xs))) size ∙ ap (λ (ys : List Run). start_of at (take (suc k) ys)) (drop-cons xs a f (omega (arith, h, w)))

-- an item in the list doesn't rest on the default
pub item-same : (xs : List Run) (n : ℕ) (d e : Run) → n < length xs → get_or xs n d ≡ get_or xs n e
item-same [] n d e h = absurd (omega (arith, h))
item-same (x ∷ xs) zero d e h = refl
item-same (x ∷ xs) (suc n) d e h = item-same xs n d e (omega (arith, h))

-- the counts

pub before-within : (at : ℕ) (rs : List Run) → count_before at rs ≤ length rs
before-within at [] = omega arith
before-within at (r ∷ rs) =
    elim (le-or at (end_of r)) [
      | inl e ↦ let f = before-no at r rs e in omega (arith, f)
      | inr e ↦ let f = before-yes at r rs e in let ih = before-within at rs in omega (arith, f, ih)
    ]

pub up-within : (stop : ℕ) (rs : List Run) → count_up_to stop rs ≤ length rs
up-within stop [] = omega arith
up-within stop (r ∷ rs) =
    elim (le-or r.start stop) [
      | inl e ↦ let f = up-yes stop r rs e in let ih = up-within stop rs in omega (arith, f, ih)
      | inr e ↦ let f = up-no stop r rs e in omega (arith, f)
    ]

joined-length : (i n at : ℕ) (text : List ℕ) (rs : List Run) → i ≤ length rs → n ≤ length (drop i rs) → length (joined i n at text rs) + n ≡ length rs + 1
joined-length i n at text rs h w =
    let l1 = length-append (take i rs) (joined_run at text (take n (drop i rs)) ∷ drop n (drop i rs)) in
    let l2 = length-take-le i rs h in
    let l3 = length-drop n (drop i rs) in
    let l4 = length-drop i rs in
    omega (arith, l1, l2, l3, l4, h, w)

-- whether a run begins at a position, as a number
abbrev here : ℕ → List Run → ℕ
here p rs = min (length (front_of p rs)) 1

here-yes : (p : ℕ) (r : Run) (rs : List Run) → r.start ≡ p → 0 < length r.bytes → here p (r ∷ rs) ≡ 1
here-yes p r rs e h =
    let t : eqb r.start p ≡ true = grind (arith, nat_tests) in
    ap (λ (c : Bool). min (length (cond c r.bytes [])) 1) t ∙ omega (arith, h)

here-no : (p : ℕ) (r : Run) (rs : List Run) → p < r.start → here p (r ∷ rs) ≡ 0
here-no p r rs e =
    let t : eqb r.start p ≡ false = grind (arith, nat_tests) in
    ap (λ (c : Bool). min (length (cond c r.bytes [])) 1) t ∙ omega arith

here-most : (p : ℕ) (rs : List Run) → here p rs ≤ 1
here-most p rs = omega arith

-- what happens to the run in front
abbrev Fronts : ℕ → ℕ → List ℕ → ℕ → ℕ → List Run → Type 0
Fronts p at text i n rs =
    (n ≡ 0 → p < at → here p (joined i n at text rs) ≡ here p rs) × (((0 < n) ⊎ (at ≡ p)) → here p rs + 1 ≤ here p (joined i n at text rs) + n)

text-some : (at : ℕ) (text : List ℕ) → 0 < length text → 0 < length (drop (at - at) text)
text-some at text h = let l = length-drop (at - at) text in omega (arith, l, h)

fronts-alone : (p at : ℕ) (text : List ℕ) (rs : List Run) → p ≤ at → 0 < length text → here p rs ≡ 0 → Fronts p at text 0 0 rs
fronts-alone p at text rs a some h =
    let new : Run = record { start = at; bytes = drop (at - at) text } in (
      λ z e. here-no p new rs e ∙ sym h,
      λ o. elim o [
        | inl z ↦ absurd (omega (arith, z))
        | inr e ↦ let y = here-yes p new rs e (text-some at text some) in omega (arith, y, h)
      ],
    )

fronts-touching : (p at high m : ℕ) (text : List ℕ) (r : Run) (rs : List Run) → IsSpaced p high (r ∷ rs) → p ≤ at → 0 < length text → Fronts p at text 0 (suc m) (r ∷ rs)
fronts-touching p at high m text r rs h a some =
    let new : Run = joined_run at text (r ∷ take m rs) in
    let rest = drop m rs in (
      λ z e. absurd (omega (arith, z)),
      λ o. elim (le-or r.start p) [
        | inl e ↦
            let y = here-yes p new rest (omega (arith, e, h.0, a)) (some-append (part at text (min at r.start) r.start) r.bytes (fill (end_of r) at text (take m rs)) h.1) in
            let t = here-most p (r ∷ rs) in
            omega (arith, y, t)
        | inr e ↦ let z = here-no p r rs e in omega (arith, z)
      ],
    )

fronts : (p at high : ℕ) (text : List ℕ) (rs : List Run) → IsSpaced p high rs → p ≤ at → 0 < length text
    → let i = count_before at rs in Fronts p at text i (count_up_to (at + length text) (drop i rs)) rs
fronts p at high text [] h a some = fronts-alone p at text [] a some refl
fronts p at high text (r ∷ rs) h a some =
    let stop = at + length text in
    let goal : ℕ → Type 0 = λ (i : ℕ). Fronts p at text i (count_up_to stop (drop i (r ∷ rs))) (r ∷ rs) in
    elim (le-or at (end_of r)) [
      | inl e ↦ subst goal (sym (before-no at r rs e)) (elim (le-or r.start stop) [
        | inl b ↦ subst (λ (n : ℕ). Fronts p at text 0 n (r ∷ rs)) (sym (up-yes stop r rs b)) (fronts-touching p at high (count_up_to stop rs) text r rs h a some)
        | inr b ↦ subst (λ (n : ℕ). Fronts p at text 0 n (r ∷ rs)) (sym (up-no stop r rs b)) (fronts-alone p at text (r ∷ rs) a some (here-no p r rs (omega (arith, b, a))))
      ])
      | inr e ↦ subst goal (sym (before-yes at r rs e)) (
        λ z d. refl,
        λ o. elim o [ inl z ↦ omega (arith, z) | inr d ↦ absurd (omega (arith, d, e, h.0)) ],
      )
    ]

joined-counts : (p at high : ℕ) (text : List ℕ) (rs : List Run) → IsSpaced p high rs → p ≤ at → 0 < length text → at + length text + 1 ≤ high
    → let i = count_before at rs in let n = count_up_to (at + length text) (drop i rs) in let new = joined i n at text rs in
    (length new + n ≡ length rs + 1) × (runs true (cells_from p new) + here p new ≡ length new) × (runs true (cells_from p rs) + here p rs ≡ length rs)
joined-counts p at high text rs h a some most =
    let i = count_before at rs in
    let n = count_up_to (at + length text) (drop i rs) in (
      joined-length i n at text rs (before-within at rs) (up-within (at + length text) (drop i rs)),
      runs-is p high (joined i n at text rs) (join-spaced p at high text rs h a some most),
      runs-is p high rs h,
    )

-- a text that touches no run, behind the next byte: one run more
pub join-more : (p at high : ℕ) (text : List ℕ) (rs : List Run) → IsSpaced p high rs → p < at → 0 < length text → at + length text + 1 ≤ high
    → let i = count_before at rs in let n = count_up_to (at + length text) (drop i rs) in
    n ≡ 0 → runs true (cells_from p (joined i n at text rs)) ≡ suc (runs true (cells_from p rs))
join-more p at high text rs h a some most none =
    let c = joined-counts p at high text rs h (omega (arith, a)) some most in
    let f = (fronts p at high text rs h (omega (arith, a)) some).0 none a in
    let c0 = c.0 in
    let c1 = c.1 in
    let c2 = c.2 in
    omega (arith, c0, c1, c2, f, none)

-- else no more runs than before
pub join-few : (p at high : ℕ) (text : List ℕ) (rs : List Run) → IsSpaced p high rs → p ≤ at → 0 < length text → at + length text + 1 ≤ high
    → let i = count_before at rs in let n = count_up_to (at + length text) (drop i rs) in
    ((0 < n) ⊎ (at ≡ p)) → runs true (cells_from p (joined i n at text rs)) ≤ runs true (cells_from p rs)
join-few p at high text rs h a some most o =
    let c = joined-counts p at high text rs h a some most in
    let f = (fronts p at high text rs h a some).1 o in
    let c0 = c.0 in
    let c1 = c.1 in
    let c2 = c.2 in
    omega (arith, c0, c1, c2, f)
