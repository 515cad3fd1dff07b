-- What is kept of the streams is as good as the whole.
use Rattle.std.proofs.Common.{◌≡◌, ℕ, ◌+◌, ◌-◌, ◌<◌, ◌≤◌, List, [], ◌∷◌, ◌++◌, Option, None, Some, length, take, drop, refl, sym, ap, subst, ◌∙◌, arith, cond, true, false, Bool, ltb, max, length-drop}
use Rattle.std.specs.Prelude.{suc, zero, is_some, option_map}
use Rattle.std.proofs.lemmas.List.{drop-drop, drop-append-le}
use Rattle.byte_queues.specs.ReceiveQueue.{Cells, Recv, front, runs, first, over_cells, gap, held, cells_at, up_to, next_of, ready_of, placed, next_bytes, without, with_cap, with_end, is_ended, is_at, bytes}
use Rattle.byte_queues.specs.WholeStreams.{cell, whole_next, whole_placed, whole_bytes, whole_without, IsRead, trim, Sent, IsSent, kept_out}
use Rattle.byte_queues.proofs.CellLemmas.{front-drop, runs-drop, front-over, over-none}
use Rattle.byte_queues.proofs.QueueLemmas.{up-to-le}

over-drop : (n : ℕ) (cs ds : Cells) → drop n (over_cells cs ds) ≡ over_cells (drop n cs) (drop n ds)
over-drop zero cs ds = refl
over-drop (suc n) [] ds = refl
over-drop (suc n) (c ∷ cs) [] = sym (over-none (drop n cs))
over-drop (suc n) (c ∷ cs) (d ∷ ds) = over-drop n cs ds

gap-drop : (n at : ℕ) (cs : Cells) → n ≤ at → drop n (gap at cs) ≡ gap (at - n) cs
gap-drop zero at cs h = ap (λ (k : ℕ). gap k cs) (omega arith)
gap-drop (suc n) zero cs h = absurd (omega (arith, h))
gap-drop (suc n) (suc at) cs h = gap-drop n at cs (omega (arith, h)) ∙ ap (λ (k : ℕ). gap k cs) (omega arith)

at-drop : (n at : ℕ) (text : List ℕ) → n ≤ at → drop n (cells_at at text) ≡ cells_at (at - n) text
at-drop zero at [] h = refl
at-drop (suc n) at [] h = refl
at-drop n at (x ∷ xs) h = gap-drop n at (held (x ∷ xs) []) h

-- the largest position below which every byte is held

pub front-held : (cs : Cells) (i : ℕ) → i < front cs → is_some (cell cs i) ≡ true
front-held [] i h = absurd (omega (arith, h))
front-held (None ∷ cs) i h = absurd (omega (arith, h))
front-held (Some x ∷ cs) zero h = refl
front-held (Some x ∷ cs) (suc i) h = front-held cs i (omega (arith, h))

pub front-gap : (cs : Cells) → cell cs (front cs) ≡ None
front-gap [] = refl
front-gap (None ∷ cs) = refl
front-gap (Some x ∷ cs) = front-gap cs

first-none : (o : Option ℕ) → o ≡ first o None
first-none None = refl
first-none (Some x) = refl

pub over-cell : (cs ds : Cells) (i : ℕ) → cell (over_cells cs ds) i ≡ first (cell cs i) (cell ds i)
over-cell [] ds i = refl
over-cell (None ∷ cs) [] zero = refl
over-cell (Some x ∷ cs) [] zero = refl
over-cell (c ∷ cs) [] (suc i) = first-none (cell cs i)
over-cell (c ∷ cs) (d ∷ ds) zero = refl
over-cell (c ∷ cs) (d ∷ ds) (suc i) = over-cell cs ds i

-- the peer's stream

pub next-trim : (q : Recv) → IsRead q → next_of (trim q) ≡ whole_next q
unfolding next_of
next-trim q h = ap (up_to q.stream_end) (front-drop q.taken q.got h)

pub without-trim : (n : ℕ) (q : Recv) → without n (trim q) ≡ trim (whole_without n q)
unfolding without
without-trim n q = ap (λ (cs : Cells). record q { got = cs; taken = q.taken + n; edge = max q.edge (q.taken + n + q.cap) }) (drop-drop n q.taken q.got)

pub bytes-trim : (n : ℕ) (q : Recv) → next_bytes n (trim q) ≡ whole_bytes n q
unfolding next_bytes
bytes-trim n q = refl

pub cap-trim : (n : ℕ) (q : Recv) → with_cap n (trim q) ≡ trim (with_cap n q)
unfolding with_cap
cap-trim n q = refl

pub end-trim : (f : ℕ) (q : Recv) → with_end f (trim q) ≡ trim (with_end f q)
unfolding with_end
end-trim f q = refl

pub ended-trim : (q : Recv) → IsRead q → is_ended (trim q) ≡ is_at q.stream_end (whole_next q)
unfolding is_ended
ended-trim q h = ap (is_at q.stream_end) (next-trim q h)

trim-cond : (t : Bool) (q : Recv) → cond t None (Some (trim q)) ≡ option_map trim (cond t None (Some q))
trim-cond true q = refl
trim-cond false q = refl

pub placed-trim : (at : ℕ) (text : List ℕ) (q : Recv) → IsRead q → q.taken ≤ at → placed at text (trim q) ≡ option_map trim (whole_placed at text q)
unfolding placed
placed-trim at text q h below =
    let fits = take (up_to q.stream_end q.edge - at) text in
    let whole = over_cells q.got (cells_at at fits) in
    let kept = over_cells (drop q.taken q.got) (cells_at (at - q.taken) fits) in
    let same : kept ≡ drop q.taken whole = ap (over_cells (drop q.taken q.got)) (sym (at-drop q.taken at fits below)) ∙ sym (over-drop q.taken q.got (cells_at at fits)) in
    let counted : runs true (drop q.taken whole) ≡ runs true whole = runs-drop q.taken whole (omega (arith, h, front-over q.got (cells_at at fits))) in
    ap (λ (cs : Cells). cond (ltb 64 (runs true cs)) None (Some (record q { got = cs }))) same
    ∙ (ap (λ (n : ℕ). cond (ltb 64 n) None (Some (record q { got = drop q.taken whole }))) counted
    ∙ trim-cond (ltb 64 (runs true whole)) (record q { got = whole }))

-- what is taken was held

held-cond : (t : Bool) (q p : Recv) → cond t None (Some q) ≡ Some p → IsRead q → IsRead p
held-cond true q p e h = cc
held-cond false q p e h = let same : q ≡ p = cc in subst (λ (r : Recv). IsRead r) same h

pub placed-held : (at : ℕ) (text : List ℕ) (q p : Recv) → IsRead q → whole_placed at text q ≡ Some p → IsRead p
placed-held at text q p h e =
    let ds = cells_at at (take (up_to q.stream_end q.edge - at) text) in
    let whole = over_cells q.got ds in
    let f = front-over q.got ds in
    held-cond (ltb 64 (runs true whole)) (record q { got = whole }) p e (omega (arith, h, f))

pub without-held : (n : ℕ) (q : Recv) → IsRead q → n ≤ ready_of (trim q) → IsRead (whole_without n q)
unfolding ready_of
without-held n q h w =
    let e = next-trim q h in
    let f = up-to-le q.stream_end (front q.got) in
    omega (arith, e, f, w, h)

bytes-count : (n : ℕ) (cs : Cells) → n ≤ front cs → length (bytes (take n cs)) ≡ n
bytes-count zero cs h = refl
bytes-count (suc n) [] h = absurd (omega (arith, h))
bytes-count (suc n) (None ∷ cs) h = absurd (omega (arith, h))
bytes-count (suc n) (Some x ∷ cs) h = ap suc (bytes-count n cs (omega (arith, h)))

pub next-count : (n : ℕ) (q : Recv) → n ≤ ready_of q → length (next_bytes n q) ≡ n
unfolding next_bytes ready_of next_of
next-count n q h =
    let f = up-to-le q.stream_end (q.taken + front q.got) in
    bytes-count n q.got (omega (arith, f, h))

-- our stream

pub unsent-kept : (s : Sent) → IsSent s → drop (s.sent - s.acked) (kept_out s) ≡ drop s.sent s.all
unsent-kept s h = let a = h.acked in let e : s.acked + (s.sent - s.acked) ≡ s.sent = omega (arith, a) in drop-drop (s.sent - s.acked) s.acked s.all ∙ ap (λ (n : ℕ). drop n s.all) e

pub slice-kept : (from n : ℕ) (s : Sent) → take n (drop from (kept_out s)) ≡ take n (drop (s.acked + from) s.all)
slice-kept from n s = ap (take n) (drop-drop from s.acked s.all)

pub acked-kept : (n : ℕ) (s : Sent) → drop n (kept_out s) ≡ kept_out (record s { acked = s.acked + n })
acked-kept n s = drop-drop n s.acked s.all

pub offered-kept : (text : List ℕ) (s : Sent) → IsSent s → kept_out s ++ text ≡ kept_out (record s { all = s.all ++ text })
offered-kept text s h = let a = h.acked in let b = h.sent in sym (drop-append-le s.acked s.all text (omega (arith, a, b)))

pub count-kept : (s : Sent) → IsSent s → s.acked + length (kept_out s) ≡ length s.all
count-kept s h = let a = h.acked in let b = h.sent in let l = length-drop s.acked s.all in omega (arith, a, b, l)
