-- What a placed text leaves as it was.
use Rattle.std.proofs.Common.{◌≡◌, ℕ, ◌+◌, ◌-◌, ◌≤◌, List, [], ◌∷◌, Option, None, Some, Bool, true, false, cond, length, take, drop, refl, ap, sym, arith, length-take, length-drop, ◌⊎◌, inl, inr}
use Rattle.std.specs.Prelude.{suc, zero}
use Rattle.byte_queues.specs.ReceiveQueue.{Recv, Cells, gap, held, front, over_cells, cells_at, up_to, placed, without, next_of, ready_of}
use Rattle.tcb_machine.specs.Limits.{whole_space}
use Rattle.byte_queues.proofs.CellLemmas.{front-drop, front-over}
use Rattle.byte_queues.proofs.PlaceLemmas.{up-more}

record Kept (cs : Cells) (q r : Recv) : Type 0 where
  taken : r.taken ≡ q.taken
  edge : r.edge ≡ q.edge
  cap : r.cap ≡ q.cap
  last : r.stream_end ≡ q.stream_end
  got : r.got ≡ cs

chosen : (t : Bool) (cs : Cells) (q r : Recv) → cond t None (Some (record q { got = cs })) ≡ Some r → Kept cs q r
chosen true cs q r e = cc
chosen false cs q r e =
    let same : record q { got = cs } ≡ r = cc in
    record { taken = ap (λ (p : Recv). p.taken) (sym same); edge = ap (λ (p : Recv). p.edge) (sym same); cap = ap (λ (p : Recv). p.cap) (sym same); last = ap (λ (p : Recv). p.stream_end) (sym same); got = ap (λ (p : Recv). p.got) (sym same) }

kept : (at : ℕ) (text : List ℕ) (q r : Recv) → placed at text q ≡ Some r → Kept (over_cells q.got (cells_at (at - q.taken) (take (up_to q.stream_end q.edge - at) text))) q r
unfolding placed
kept at text q r e = chosen _ _ q r e

pub placed_taken : (at : ℕ) (text : List ℕ) (q r : Recv) → placed at text q ≡ Some r → r.taken ≡ q.taken
placed_taken at text q r e = (kept at text q r e).taken

pub placed_edge : (at : ℕ) (text : List ℕ) (q r : Recv) → placed at text q ≡ Some r → r.edge ≡ q.edge
placed_edge at text q r e = (kept at text q r e).edge

pub placed_cap : (at : ℕ) (text : List ℕ) (q r : Recv) → placed at text q ≡ Some r → r.cap ≡ q.cap
placed_cap at text q r e = (kept at text q r e).cap

over-length : (cs ds : Cells) (n : ℕ) → length cs ≤ n → length ds ≤ n → length (over_cells cs ds) ≤ n
over-length [] ds n h w = w
over-length (c ∷ cs) [] n h w = h
over-length (c ∷ cs) (d ∷ ds) zero h w = absurd (omega (arith, h))
over-length (c ∷ cs) (d ∷ ds) (suc n) h w = let e = over-length cs ds n (omega (arith, h)) (omega (arith, w)) in omega (arith, e)

held-length : (xs : List ℕ) → length (held xs []) ≡ length xs
held-length [] = refl
held-length (x ∷ xs) = ap suc (held-length xs)

gap-length : (n : ℕ) (cs : Cells) → length (gap n cs) ≡ n + length cs
gap-length zero cs = omega arith
gap-length (suc n) cs = let e = gap-length n cs in omega (arith, e)

at-length : (n most : ℕ) (text : List ℕ) → n + length text ≤ most → length (cells_at n text) ≤ most
at-length n most [] h = omega arith
at-length n most (x ∷ xs) h = let e = gap-length n (held (x ∷ xs) []) in let f = held-length (x ∷ xs) in omega (arith, e, f, h)

up-le : (e : Option ℕ) (n : ℕ) → up_to e n ≤ n
up-le None n = omega arith
up-le (Some m) n = omega arith

none-at : (n k : ℕ) (text : List ℕ) → k ≡ 0 → cells_at n (take k text) ≡ []
none-at n k text e = ap (λ (j : ℕ). cells_at n (take j text)) e

-- what is held stays below the edge
pub placed_below : (at : ℕ) (text : List ℕ) (q r : Recv) → placed at text q ≡ Some r → q.taken ≤ at → q.taken + length q.got ≤ q.edge → r.taken + length r.got ≤ r.edge
placed_below at text q r e b h =
    let k = kept at text q r e in
    let room = up_to q.stream_end q.edge - at in
    let fits = take room text in
    let most = up-le q.stream_end q.edge in
    let kt = k.taken in
    let ke = k.edge in
    let long = length-take room text in
    let laid : length (cells_at (at - q.taken) fits) ≤ q.edge - q.taken =
    elim (zero-or room) [
      | inl z ↦ let n = ap length (none-at (at - q.taken) room text z) in omega (arith, n)
      | inr s ↦ at-length (at - q.taken) (q.edge - q.taken) fits (omega (arith, long, most, s, h, b))
    ] in
    let all = over-length q.got (cells_at (at - q.taken) fits) (q.edge - q.taken) (omega (arith, h)) laid in
    let size = ap length k.got in
    omega (arith, kt, ke, all, size, h)
  where
    zero-or : (n : ℕ) → (n ≡ 0) ⊎ (1 ≤ n)
    zero-or zero = inl refl
    zero-or (suc n) = inr (omega arith)

pub front_length : (cs : Cells) → front cs ≤ length cs
front_length [] = omega arith
front_length (None ∷ cs) = omega arith
front_length (Some x ∷ cs) = let e = front_length cs in omega (arith, e)

pub without_below : (n : ℕ) (q : Recv) → q.taken + length q.got ≤ q.edge → (without n q).taken + length (without n q).got ≤ (without n q).edge
unfolding without
without_below n q h = let l = length-drop n q.got in omega (arith, l, h)

-- the next byte isn't far behind the ones that were taken
pub next_near : (q : Recv) → q.taken + length q.got ≤ q.edge → q.edge ≤ q.taken + whole_space → next_of q ≤ q.taken + whole_space
unfolding next_of
next_near q h w = let u = up-le q.stream_end (q.taken + front q.got) in let f = front_length q.got in omega (arith, u, f, h, w)

-- what was taken isn't past the next byte

read-as : (q r : Recv) (cs : Cells) → r.taken ≡ q.taken → r.stream_end ≡ q.stream_end → r.got ≡ over_cells q.got cs → q.taken ≤ next_of q → r.taken ≤ next_of r
unfolding next_of
read-as q r cs t e g h =
    let more = front-over q.got cs in
    let size = ap front g in
    let reach = up-more q.stream_end (q.taken + front q.got) (r.taken + front r.got) (omega (arith, t, more, size)) in
    let same = ap (λ (o : Option ℕ). up_to o (r.taken + front r.got)) e in
    omega (arith, h, reach, same, t)

pub placed_read : (at : ℕ) (text : List ℕ) (q r : Recv) → placed at text q ≡ Some r → q.taken ≤ next_of q → r.taken ≤ next_of r
placed_read at text q r e h =
    let k = kept at text q r e in
    read-as q r (cells_at (at - q.taken) (take (up_to q.stream_end q.edge - at) text)) k.taken k.last k.got h

pub without_read : (n : ℕ) (q : Recv) → n ≤ ready_of q → q.taken ≤ next_of q → (without n q).taken ≤ next_of (without n q)
unfolding without next_of ready_of
without_read n q w h =
    let u = up-le q.stream_end (q.taken + front q.got) in
    let d = front-drop n q.got (omega (arith, w, u)) in
    let reach : q.taken + n + front (drop n q.got) ≡ q.taken + front q.got = omega (arith, d) in
    let same = ap (up_to q.stream_end) reach in
    omega (arith, w, h, same)

-- what leaves was counted
pub next_without : (n : ℕ) (q : Recv) → n ≤ ready_of q → next_of (without n q) ≡ next_of q
unfolding without next_of ready_of
next_without n q w =
    let u = up-le q.stream_end (q.taken + front q.got) in
    let d = front-drop n q.got (omega (arith, w, u)) in
    let reach : q.taken + n + front (drop n q.got) ≡ q.taken + front q.got = omega (arith, d) in
    ap (up_to q.stream_end) reach
