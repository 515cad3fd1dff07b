-- How many bytes runs hold.
use Rattle.std.proofs.Common.{◌≡◌, ℕ, zero, suc, ◌+◌, ◌-◌, ◌^◌, ◌≤◌, List, [], ◌∷◌, length, refl, ap, min, arith}
use Rattle.byte_queues.specs.ReceiveQueue.{Cells, bytes, gap, held}
use Rattle.byte_queues.specs.Inside.{IsQueue}
use Rattle.byte_queues.specs.Runs.{cells_from, held_of, IsSpaced}
use Rattle.byte_queues.specs.declared.recv.RecvQueue.TheInside.{Inside}
use Rattle.byte_queues.specs.declared.run.Run.{Run}

gap-bytes : (n : ℕ) (cs : Cells) → bytes (gap n cs) ≡ bytes cs
gap-bytes zero cs = refl
gap-bytes (suc n) cs = gap-bytes n cs

held-length : (xs : List ℕ) (cs : Cells) → length (bytes (held xs cs)) ≡ length xs + length (bytes cs)
held-length [] cs = omega arith
held-length (x ∷ xs) cs = let more = held-length xs cs in omega arith

pub held_bytes : (at : ℕ) (rs : List Run) → held_of rs ≡ length (bytes (cells_from at rs))
held_bytes at [] = refl
held_bytes at (r ∷ rs) =
    let rest = cells_from (r.start + length r.bytes) rs in
    let a = ap (λ (l : List ℕ). length l) (gap-bytes (r.start - at) (held r.bytes rest)) in
    let b = held-length r.bytes rest in
    let c = held_bytes (r.start + length r.bytes) rs in
    omega (arith, a, b, c)

spaced-held : (low high : ℕ) (rs : List Run) → IsSpaced low high rs → low + held_of rs ≤ high
spaced-held low high [] h = omega (arith, h)
spaced-held low high (r ∷ rs) h =
    let rest = spaced-held (r.start + length r.bytes + 1) high rs h.2 in omega (arith, rest, h.0)

pub held_below : (a : Inside) → IsQueue a → held_of a.runs.items ≤ 2 ^ 32
held_below a sound = let all = spaced-held a.taken (min (a.edge + 1) (2 ^ 62 + 2 ^ 32)) a.runs.items sound.spaced in omega (arith, all, sound.edge)
