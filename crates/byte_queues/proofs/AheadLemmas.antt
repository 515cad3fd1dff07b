-- What is held behind a gap is forgotten: the runs and the cells that stay, and what is read off them.
use Rattle.std.proofs.Common.{◌≡◌, ℕ, ◌+◌, ◌-◌, ◌^◌, ◌≤◌, List, [], ◌∷◌, None, Some, true, false, length, take, drop, min, refl, sym, ap, subst, ◌∙◌, arith, inl, inr}
use Rattle.std.specs.Prelude.{suc, zero}
use Rattle.byte_queues.specs.ReceiveQueue.{Cells, Recv, bytes, front, gap, held, runs, up_to, is_at, next_of, ready_of, window_of, is_ended, next_bytes, without_ahead}
use Rattle.byte_queues.specs.Inside.{recv_of, IsQueue}
use Rattle.byte_queues.specs.Runs.{cells_from, front_of, IsSpaced}
use Rattle.byte_queues.specs.WholeStreams.{IsRead, trim}
use Rattle.byte_queues.specs.declared.recv.RecvQueue.TheInside.{Inside}
use Rattle.byte_queues.specs.declared.run.Run.{Run}
use Rattle.byte_queues.proofs.QueueLemmas.{up-to-le}
use Rattle.byte_queues.proofs.RunLemmas.{front-chosen, here-front, later-front, spaced-low, starts}

-- the cells

pub front-ahead : (cs : Cells) → front (take (front cs) cs) ≡ front cs
front-ahead [] = refl
front-ahead (None ∷ cs) = refl
front-ahead (Some x ∷ cs) = ap suc (front-ahead cs)

take-ahead : (n : ℕ) (cs : Cells) → n ≤ front cs → take n (take (front cs) cs) ≡ take n cs
take-ahead zero cs h = refl
take-ahead (suc n) [] h = refl
take-ahead (suc n) (None ∷ cs) h = absurd (omega (arith, h))
take-ahead (suc n) (Some x ∷ cs) h = ap (λ (ds : Cells). Some x ∷ ds) (take-ahead n cs (omega (arith, h)))

bytes-ahead : (cs : Cells) → length (bytes (take (front cs) cs)) ≡ front cs
bytes-ahead [] = refl
bytes-ahead (None ∷ cs) = refl
bytes-ahead (Some x ∷ cs) = ap suc (bytes-ahead cs)

front-bytes-most : (cs : Cells) → front cs ≤ length (bytes cs)
front-bytes-most [] = omega arith
front-bytes-most (None ∷ cs) = omega arith
front-bytes-most (Some x ∷ cs) = let e = front-bytes-most cs in omega (arith, e)

drop-ahead : (n : ℕ) (cs : Cells) → n ≤ front cs → take (front (drop n cs)) (drop n cs) ≡ drop n (take (front cs) cs)
drop-ahead zero cs h = refl
drop-ahead (suc n) [] h = refl
drop-ahead (suc n) (None ∷ cs) h = absurd (omega (arith, h))
drop-ahead (suc n) (Some x ∷ cs) h = drop-ahead n cs (omega (arith, h))

pub runs-ahead : (cs : Cells) → runs true (take (front cs) cs) ≡ 0
runs-ahead [] = refl
runs-ahead (None ∷ cs) = refl
runs-ahead (Some x ∷ cs) = runs-ahead cs

-- the queue

pub next-ahead : (q : Recv) → next_of (without_ahead q) ≡ next_of q
unfolding next_of without_ahead
next-ahead q = ap (λ (n : ℕ). up_to q.stream_end (q.taken + n)) (front-ahead q.got)

pub window-ahead : (q : Recv) → window_of (without_ahead q) ≡ window_of q
unfolding window_of without_ahead
window-ahead q = ap (λ (n : ℕ). q.edge - n) (next-ahead q)

pub ready-ahead : (q : Recv) → ready_of (without_ahead q) ≡ ready_of q
unfolding ready_of without_ahead
ready-ahead q = ap (λ (n : ℕ). n - q.taken) (next-ahead q)

pub ended-ahead : (q : Recv) → is_ended (without_ahead q) ≡ is_ended q
unfolding is_ended without_ahead
ended-ahead q = ap (is_at q.stream_end) (next-ahead q)

pub next-bytes-ahead : (n : ℕ) (q : Recv) → n ≤ ready_of q → next_bytes n (without_ahead q) ≡ next_bytes n q
unfolding next_bytes ready_of next_of without_ahead
next-bytes-ahead n q h =
    let f = up-to-le q.stream_end (q.taken + front q.got) in
    ap bytes (take-ahead n q.got (omega (arith, f, h)))

pub held-ahead : (q : Recv) → length (bytes (without_ahead q).got) ≡ front q.got
unfolding without_ahead
held-ahead q = bytes-ahead q.got

pub less-ahead : (q : Recv) → length (bytes (without_ahead q).got) ≤ length (bytes q.got)
less-ahead q = let e = held-ahead q in let f = front-bytes-most q.got in omega (arith, e, f)

pub trim-ahead : (q : Recv) → IsRead q → without_ahead (trim q) ≡ trim (without_ahead q)
unfolding without_ahead
trim-ahead q h = ap (λ (cs : Cells). record q { got = cs }) (drop-ahead q.taken q.got h)

pub read-ahead : (q : Recv) → IsRead q → IsRead (without_ahead q)
unfolding without_ahead
read-ahead q h = let e = front-ahead q.got in omega (arith, e, h)

-- the runs

-- how many runs begin at a position: the first one, or none
abbrev pub in_order : ℕ → List Run → ℕ
in_order at rs = min (length (front_of at rs)) 1

held-front-alone : (bs : List ℕ) (cs : Cells) → held bs [] ≡ take (length bs) (held bs cs)
held-front-alone [] cs = refl
held-front-alone (b ∷ bs) cs = ap (λ (ds : Cells). Some b ∷ ds) (held-front-alone bs cs)

cells-here : (at : ℕ) (r : Run) (rs : List Run) → r.start ≡ at → cells_from at (r ∷ []) ≡ take (length r.bytes) (cells_from at (r ∷ rs))
cells-here at r rs e =
    let none : r.start - at ≡ 0 = omega (arith, e) in
    let rest = cells_from (r.start + length r.bytes) rs in
    ap (λ (k : ℕ). gap k (held r.bytes [])) none
    ∙ (held-front-alone r.bytes rest ∙ sym (ap (λ (k : ℕ). take (length r.bytes) (gap k (held r.bytes rest))) none))

pub cells-ahead : (at high : ℕ) (rs : List Run) → IsSpaced at high rs → cells_from at (take (in_order at rs) rs) ≡ take (front (cells_from at rs)) (cells_from at rs)
cells-ahead at high [] h = refl
cells-ahead at high (r ∷ rs) h =
    let cs = cells_from at (r ∷ rs) in
    elim (starts at high r rs h) [
      | inl e ↦
          let f = ap length (front-chosen true at r rs e.1) in
          let one : in_order at (r ∷ rs) ≡ 1 = omega (arith, f, h.1) in
          ap (λ (k : ℕ). cells_from at (take k (r ∷ rs))) one
          ∙ (cells-here at r rs e.0 ∙ ap (λ (k : ℕ). take k cs) (sym (here-front at high r rs h e.0)))
      | inr e ↦
          let f = ap length (front-chosen false at r rs e.1) in
          let none : in_order at (r ∷ rs) ≡ 0 = omega (arith, f) in
          ap (λ (k : ℕ). cells_from at (take k (r ∷ rs))) none
          ∙ ap (λ (k : ℕ). take k cs) (sym (later-front at high (r ∷ rs) (omega (arith, e.0), h.1, h.2)))
    ]

pub spaced-ahead : (n at high : ℕ) (rs : List Run) → IsSpaced at high rs → IsSpaced at high (take n rs)
spaced-ahead zero at high rs h = spaced-low at high rs h
spaced-ahead (suc n) at high [] h = h
spaced-ahead (suc n) at high (r ∷ rs) h = (h.0, h.1, spaced-ahead n (r.start + length r.bytes + 1) high rs h.2)

-- the queue inside

pub kept-cells : (a : Inside) (n : ℕ) (rs : List Run) → IsQueue a → n ≡ in_order a.taken a.runs.items → rs ≡ take n a.runs.items
    → cells_from a.taken rs ≡ take (front (recv_of a).got) (recv_of a).got
kept-cells a n rs h count e =
    ap (cells_from a.taken) (e ∙ ap (λ (k : ℕ). take k a.runs.items) count)
    ∙ cells-ahead a.taken (min (a.edge + 1) (2 ^ 62 + 2 ^ 32)) a.runs.items h.spaced

pub record KeptWell (a : Inside) (rs : List Run) : Type 0 where
  pub spaced : IsSpaced a.taken (min (a.edge + 1) (2 ^ 62 + 2 ^ 32)) rs
  pub few : runs true (cells_from a.taken rs) ≤ 64
  pub read : a.taken ≤ next_of (record { got = cells_from a.taken rs; taken = a.taken; edge = a.edge; cap = a.cap; stream_end = a.stream_end })

pub kept-well : (a : Inside) (n : ℕ) (rs : List Run) → IsQueue a → n ≡ in_order a.taken a.runs.items → rs ≡ take n a.runs.items → KeptWell a rs
unfolding without_ahead
kept-well a n rs h count e =
    let same = kept-cells a n rs h count e in
    let cs = (recv_of a).got in
    record {
      spaced = subst (λ (x : List Run). IsSpaced a.taken (min (a.edge + 1) (2 ^ 62 + 2 ^ 32)) x) (sym e) (spaced-ahead n a.taken (min (a.edge + 1) (2 ^ 62 + 2 ^ 32)) a.runs.items h.spaced);
      few = let f = ap (runs true) same in let z = runs-ahead cs in omega (arith, f, z);
      read =
          let f = ap (λ (x : Cells). next_of (record (recv_of a) { got = x })) same in
          let g = next-ahead (recv_of a) in
          let r = h.read in
          omega (arith, f, g, r);
    }
