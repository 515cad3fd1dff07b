-- A text is placed, or the front leaves: the queue is sound again, and is what the definitions say.
use Rattle.std.proofs.Common.{◌≡◌, ℕ, ◌+◌, ◌-◌, ◌^◌, ◌<◌, ◌≤◌, List, [], ◌∷◌, Option, None, Some, Bool, true, false, cond, ltb, eqb, ◌||◌, length, drop, take, min, max, subst, sym, ap, ◌∙◌, arith, ◌⊎◌, inl, inr}
use Rattle.std.proofs.lemmas.Bool.Decides.{nat_tests}
use Rattle.byte_queues.specs.ReceiveQueue.{Cells, Recv, gap, held, up_to, front, runs, over_cells, cells_at, next_of, ready_of, holding, placed, laid, without}
use Rattle.byte_queues.specs.Runs.{cells_from, dropped, IsSpaced, count_before, count_up_to, joined}
use Rattle.byte_queues.specs.Inside.{recv_of, IsQueue}
use Rattle.byte_queues.specs.declared.run.Run.{Run}
use Rattle.byte_queues.specs.declared.recv.RecvQueue.TheInside.{Inside}
use Rattle.byte_queues.proofs.CellLemmas.{runs-drop, front-drop, front-over, cells-text, over-none}
use Rattle.byte_queues.proofs.RunLemmas.{spaced-higher, front-is, dropped-cells, dropped-spaced, zero-or}
use Rattle.byte_queues.proofs.JoinLemmas.{join-cells, join-spaced, join-more, join-few}
use Rattle.byte_queues.proofs.QueueLemmas.{ahead, ready-within, ahead-small, high}

-- what the invariant says of runs from a position on below an edge
pub record Sound (from top : ℕ) (stream_end : Option ℕ) (rs : List Run) : Type 0 where
  pub spaced : IsSpaced from (min (top + 1) (2 ^ 62 + 2 ^ 32)) rs
  pub few : runs true (cells_from from rs) ≤ 64
  pub edge : top + 1 ≤ from + 2 ^ 32
  pub read : from ≤ up_to stream_end (from + front (cells_from from rs))

-- the front leaves

front-within : (a : Inside) (n : ℕ) → IsQueue a → n ≤ ahead a → n ≤ front (cells_from a.taken a.runs.items)
front-within a n h w = let e = front-is a.taken (high a) a.runs.items h.spaced in omega (arith, w, e)

left-cells : (a : Inside) (n : ℕ) → IsQueue a → n ≤ ahead a → drop n (cells_from a.taken a.runs.items) ≡ cells_from (a.taken + n) (dropped n a.runs.items)
left-cells a n h w = dropped-cells n a.taken (high a) a.runs.items h.spaced w

pub skip-sound : (a : Inside) (n t e : ℕ) (rs : List Run) → IsQueue a → a.cap < 2 ^ 32 → n ≤ ready_of (recv_of a) → t ≡ n → e ≡ max a.edge (a.taken + n + a.cap)
    → rs ≡ dropped n a.runs.items → Sound (a.taken + t) e a.stream_end rs
unfolding ready_of next_of
skip-sound a n t e rs h cap w same edge items =
    let within = ready-within a n h w in
    let cells = left-cells a n h within in
    let f = front-within a n h within in
    let low = ahead-small a h in
    let count : runs true (cells_from (a.taken + n) (dropped n a.runs.items)) ≡ runs true (cells_from a.taken a.runs.items) =
    ap (runs true) (sym cells) ∙ runs-drop n (cells_from a.taken a.runs.items) f in
    let reach : a.taken + n + front (cells_from (a.taken + n) (dropped n a.runs.items)) ≡ a.taken + front (cells_from a.taken a.runs.items) =
    let k = ap front (sym cells) in
    let d = front-drop n (cells_from a.taken a.runs.items) f in
    omega (arith, k, d) in
    let read : a.taken + n ≤ up_to a.stream_end (a.taken + n + front (cells_from (a.taken + n) (dropped n a.runs.items))) =
    subst (λ (m : ℕ). a.taken + n ≤ up_to a.stream_end m) (sym reach) (let r = h.read in omega (arith, w, r)) in
    let few = h.few in
    let old = h.edge in
    let made : Sound (a.taken + n) e a.stream_end (dropped n a.runs.items) = record {
      spaced = spaced-higher (a.taken + n) (high a) (min (e + 1) (2 ^ 62 + 2 ^ 32)) (dropped n a.runs.items) (omega (arith, edge)) (dropped-spaced n a.taken (high a) a.runs.items h.spaced within);
      few = omega (arith, count, few);
      edge = omega (arith, edge, old, cap);
      read = read;
    } in
    subst (λ (ys : List Run). Sound (a.taken + t) e a.stream_end ys) (sym items) (subst (λ (m : ℕ). Sound (a.taken + m) e a.stream_end (dropped n a.runs.items)) (sym same) made)

pub skip-view : (a : Inside) (n t e : ℕ) (rs : List Run) → IsQueue a → n ≤ ready_of (recv_of a) → t ≡ n → e ≡ max a.edge (a.taken + n + a.cap) → rs ≡ dropped n a.runs.items
    → record { got = cells_from (a.taken + t) rs; taken = a.taken + t; edge = e; cap = a.cap; stream_end = a.stream_end } ≡ without n (recv_of a)
unfolding without
skip-view a n t e rs h w same edge items =
    let shape : Cells → ℕ → ℕ → Recv = λ (cs : Cells) (m k : ℕ). record { got = cs; taken = m; edge = k; cap = a.cap; stream_end = a.stream_end } in
    ap (λ (ys : List Run). shape (cells_from (a.taken + t) ys) (a.taken + t) e) items
    ∙ (ap (λ (m : ℕ). shape (cells_from (a.taken + m) (dropped n a.runs.items)) (a.taken + m) e) same
    ∙ (ap (λ (k : ℕ). shape (cells_from (a.taken + n) (dropped n a.runs.items)) (a.taken + n) k) edge
    ∙ ap (λ (cs : Cells). shape cs (a.taken + n) (max a.edge (a.taken + n + a.cap))) (sym (left-cells a n h (ready-within a n h w)))))

-- a text is placed

abbrev pub with_text : ℕ → List ℕ → List Run → List Run
with_text at text rs = joined (count_before at rs) (count_up_to (at + length text) (drop (count_before at rs) rs)) at text rs

abbrev pub touched : ℕ → List ℕ → List Run → ℕ
touched at text rs = count_up_to (at + length text) (drop (count_before at rs) rs)

-- there is room for the text
abbrev pub room : ℕ → List ℕ → Inside → Bool
room at text a = ltb 0 (touched at text a.runs.items) || (eqb at a.taken || ltb (runs true (cells_from a.taken a.runs.items)) 64)

pub touched-is : (at stop i n : ℕ) (text : List ℕ) (rs : List Run) → i ≡ count_before at rs → stop ≡ at + length text → n ≡ count_up_to stop (drop i rs) → n ≡ touched at text rs
touched-is at stop i n text rs e s c = c ∙ (ap (λ (k : ℕ). count_up_to k (drop i rs)) s ∙ ap (λ (k : ℕ). count_up_to (at + length text) (drop k rs)) e)

pub text-is : (at i n : ℕ) (text : List ℕ) (rs : List Run) → i ≡ count_before at rs → n ≡ touched at text rs → joined i n at text rs ≡ with_text at text rs
text-is at i n text rs e c = ap (λ (k : ℕ). joined k n at text rs) e ∙ ap (λ (k : ℕ). joined (count_before at rs) k at text rs) c

pub room-is : (a : Inside) (at n : ℕ) (text : List ℕ) (q : Recv) (r : Bool) → recv_of a ≡ q → n ≡ touched at text a.runs.items → r ≡ (ltb 0 n || (eqb at q.taken || ltb (runs true q.got) 64)) → r ≡ room at text a
room-is a at n text q r view count e =
    e ∙ (ap (λ (k : ℕ). ltb 0 k || (eqb at q.taken || ltb (runs true q.got) 64)) count
    ∙ ap (λ (p : Recv). ltb 0 (touched at text a.runs.items) || (eqb at p.taken || ltb (runs true p.got) 64)) (sym view))

pub record Fitting (a : Inside) (at : ℕ) (text : List ℕ) : Type 0 where
  pub queue : IsQueue a
  pub behind : a.taken ≤ at
  pub small : at < 2 ^ 62
  pub some : 0 < length text
  pub within : at + length text ≤ a.edge

fits-high : (a : Inside) (at : ℕ) (text : List ℕ) → Fitting a at text → at + length text + 1 ≤ high a
fits-high a at text f =
    let e = (f.queue).edge in
    let b = f.behind in
    let s = f.small in
    let w = f.within in
    omega (arith, e, b, s, w)

room-means : (a : Inside) (at : ℕ) (text : List ℕ) → room at text a ≡ true
    → ((0 < touched at text a.runs.items) ⊎ (at ≡ a.taken)) ⊎ (runs true (cells_from a.taken a.runs.items) < 64)
room-means a at text e = means (touched at text a.runs.items) at a.taken (runs true (cells_from a.taken a.runs.items)) e
  where
    means : (n at taken k : ℕ) → ltb 0 n || (eqb at taken || ltb k 64) ≡ true → ((0 < n) ⊎ (at ≡ taken)) ⊎ (k < 64)
    means n at taken k e = grind (arith, nat_tests)

no-room-means : (n at taken k : ℕ) → ltb 0 n || (eqb at taken || ltb k 64) ≡ false → (n ≡ 0) × ((at ≡ taken → ⊥) × (64 ≤ k))
no-room-means n at taken k e = (grind (arith, nat_tests), (λ d. grind (arith, nat_tests), grind (arith, nat_tests)))

few-with-text : (a : Inside) (at : ℕ) (text : List ℕ) → Fitting a at text → room at text a ≡ true → runs true (cells_from a.taken (with_text at text a.runs.items)) ≤ 64
few-with-text a at text f e =
    let spaced = (f.queue).spaced in
    let few = (f.queue).few in
    let most = fits-high a at text f in
    elim (room-means a at text e) [
      | inl o ↦ let k = join-few a.taken at (high a) text a.runs.items spaced f.behind f.some most o in omega (arith, k, few)
      | inr k ↦ elim (zero-or (touched at text a.runs.items)) [
        | inl z ↦ elim (zero-or (at - a.taken)) [
          | inl d ↦ let same : at ≡ a.taken = (let b = f.behind in omega (arith, d, b)) in let j = join-few a.taken at (high a) text a.runs.items spaced f.behind f.some most (inr same) in omega (arith, j, few)
          | inr d ↦ let j = join-more a.taken at (high a) text a.runs.items spaced (omega (arith, d)) f.some most z in omega (arith, j, k)
        ]
        | inr n ↦ let j = join-few a.taken at (high a) text a.runs.items spaced f.behind f.some most (inl n) in omega (arith, j, few)
      ]
    ]

many-with-text : (a : Inside) (at : ℕ) (text : List ℕ) → Fitting a at text → room at text a ≡ false → 64 < runs true (cells_from a.taken (with_text at text a.runs.items))
many-with-text a at text f e =
    let m = no-room-means (touched at text a.runs.items) at a.taken (runs true (cells_from a.taken a.runs.items)) e in
    let none = m.0 in
    let apart = m.1.0 in
    let full = m.1.1 in
    let above : a.taken < at = let b = f.behind in omega (arith, apart, b) in
    let j = join-more a.taken at (high a) text a.runs.items (f.queue).spaced above f.some (fits-high a at text f) none in
    omega (arith, j, full)

laid-cells : (a : Inside) (at : ℕ) (text : List ℕ) → Fitting a at text
    → over_cells (cells_from a.taken a.runs.items) (gap (at - a.taken) (held text [])) ≡ cells_from a.taken (with_text at text a.runs.items)
laid-cells a at text f = join-cells a.taken at (high a) text a.runs.items (f.queue).spaced f.behind

pub up-more : (e : Option ℕ) (m n : ℕ) → m ≤ n → up_to e m ≤ up_to e n
up-more None m n h = h
up-more (Some k) m n h = omega (arith, h)

pub place-sound : (a : Inside) (at : ℕ) (text : List ℕ) (rs : List Run) → Fitting a at text → room at text a ≡ true → rs ≡ with_text at text a.runs.items
    → Sound a.taken a.edge a.stream_end rs
unfolding next_of
place-sound a at text rs f e items =
    let new = with_text at text a.runs.items in
    let more : front (cells_from a.taken a.runs.items) ≤ front (cells_from a.taken new) =
    subst (λ (cs : Cells). front (cells_from a.taken a.runs.items) ≤ front cs) (laid-cells a at text f) (front-over (cells_from a.taken a.runs.items) (gap (at - a.taken) (held text []))) in
    let reach = up-more a.stream_end (a.taken + front (cells_from a.taken a.runs.items)) (a.taken + front (cells_from a.taken new)) (omega (arith, more)) in
    let read = (f.queue).read in
    let made : Sound a.taken a.edge a.stream_end new = record {
      spaced = join-spaced a.taken at (high a) text a.runs.items (f.queue).spaced f.behind f.some (fits-high a at text f);
      few = few-with-text a at text f e;
      edge = (f.queue).edge;
      read = omega (arith, read, reach);
    } in
    subst (λ (ys : List Run). Sound a.taken a.edge a.stream_end ys) (sym items) made

pub place-held : (a : Inside) (at : ℕ) (text : List ℕ) (rs : List Run) → Fitting a at text → room at text a ≡ true → rs ≡ with_text at text a.runs.items
    → laid at text (recv_of a) ≡ Some (record { got = cells_from a.taken rs; taken = a.taken; edge = a.edge; cap = a.cap; stream_end = a.stream_end })
place-held a at text rs f e items =
    let new = with_text at text a.runs.items in
    let few = few-with-text a at text f e in
    let t : ltb 64 (runs true (cells_from a.taken new)) ≡ false = grind (arith, nat_tests) in
    let shape : Cells → Recv = λ (cs : Cells). record { got = cs; taken = a.taken; edge = a.edge; cap = a.cap; stream_end = a.stream_end } in
    ap (λ (cs : Cells). holding cs (recv_of a)) (laid-cells a at text f)
    ∙ (ap (λ (b : Bool). cond b None (Some (shape (cells_from a.taken new)))) t
    ∙ ap (λ (ys : List Run). Some (shape (cells_from a.taken ys))) (sym items))

pub place-blocks : (a : Inside) (at : ℕ) (text : List ℕ) → Fitting a at text → room at text a ≡ false → laid at text (recv_of a) ≡ None
place-blocks a at text f e =
    let new = with_text at text a.runs.items in
    let many = many-with-text a at text f e in
    let t : ltb 64 (runs true (cells_from a.taken new)) ≡ true = grind (arith, nat_tests) in
    let kept : Option Recv = Some (record (recv_of a) { got = cells_from a.taken new }) in
    ap (λ (cs : Cells). holding cs (recv_of a)) (laid-cells a at text f) ∙ ap (λ (b : Bool). cond b None kept) t

-- the part of a text that is below the edge and the end

empty-over : (cs : Cells) (n : ℕ) (text : List ℕ) → length text ≡ 0 → over_cells cs (cells_at n text) ≡ cs
empty-over cs n [] e = over-none cs
empty-over cs n (x ∷ xs) e = absurd (omega (arith, e))

pub placed-none : (at : ℕ) (text : List ℕ) (q : Recv) → runs true q.got ≤ 64 → length (take (up_to q.stream_end q.edge - at) text) ≡ 0 → placed at text q ≡ Some q
unfolding placed
placed-none at text q few none =
    let fits = take (up_to q.stream_end q.edge - at) text in
    let t : ltb 64 (runs true q.got) ≡ false = grind (arith, nat_tests) in
    ap (λ (cs : Cells). holding cs q) (empty-over q.got (at - q.taken) fits none)
    ∙ ap (λ (b : Bool). cond b None (Some q)) t

pub placed-laid : (at : ℕ) (text : List ℕ) (q : Recv) → 0 < length (take (up_to q.stream_end q.edge - at) text) → placed at text q ≡ laid at (take (up_to q.stream_end q.edge - at) text) q
unfolding placed
placed-laid at text q some =
    ap (λ (cs : Cells). holding (over_cells q.got cs) q) (cells-text (at - q.taken) (take (up_to q.stream_end q.edge - at) text) some)
