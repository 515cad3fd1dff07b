-- What the invariant of a receive queue says of the counts that are read off it.
use Rattle.std.proofs.Common.{◌≡◌, ℕ, ◌+◌, ◌^◌, ◌<◌, ◌≤◌, Option, None, Some, true, length, take, map, min, ap, ◌∙◌, arith}
use Rattle.std.proofs.lemmas.List.{length-map}
use Rattle.byte_queues.specs.ReceiveQueue.{up_to, runs, runs_of, next_of, ready_of, next_bytes}
use Rattle.byte_queues.specs.Runs.{front_of}
use Rattle.byte_queues.specs.Inside.{recv_of, IsQueue}
use Rattle.byte_queues.specs.declared.recv.RecvQueue.TheInside.{Inside}
use Rattle.byte_queues.proofs.RunLemmas.{front-is, front-small, runs-is, cells-runs, front-bytes, shown}

abbrev pub high : Inside → ℕ
high a = min (a.edge + 1) (2 ^ 62 + 2 ^ 32)

-- the bytes that are held in front
abbrev pub ahead : Inside → ℕ
ahead a = length (front_of a.taken a.runs.items)

pub ahead-small : (a : Inside) → IsQueue a → a.taken + ahead a ≤ 2 ^ 62 + 2 ^ 32
ahead-small a h = let e = front-small a.taken (high a) a.runs.items h.spaced in omega (arith, e)

pub ahead-fits : (a : Inside) → IsQueue a → ahead a < 2 ^ 32
ahead-fits a h = let e = front-small a.taken (high a) a.runs.items h.spaced in let f = h.edge in omega (arith, e, f)

pub up-to-le : (e : Option ℕ) (n : ℕ) → up_to e n ≤ n
up-to-le None n = omega arith
up-to-le (Some m) n = omega arith

pub next-is : (a : Inside) → IsQueue a → next_of (recv_of a) ≡ up_to a.stream_end (a.taken + ahead a)
unfolding next_of
next-is a h = ap (λ (k : ℕ). up_to a.stream_end (a.taken + k)) (front-is a.taken (high a) a.runs.items h.spaced)

pub ready-within : (a : Inside) (n : ℕ) → IsQueue a → n ≤ ready_of (recv_of a) → n ≤ ahead a
unfolding ready_of
ready-within a n h w =
    let e = next-is a h in
    let f = up-to-le a.stream_end (a.taken + ahead a) in
    omega (arith, w, e, f)

pub bytes-are : (a : Inside) (n : ℕ) → IsQueue a → n ≤ ahead a → next_bytes n (recv_of a) ≡ take n (front_of a.taken a.runs.items)
unfolding next_bytes
bytes-are a n h w = front-bytes n a.taken (high a) a.runs.items h.spaced w

pub above-is : (a : Inside) → IsQueue a → runs true (recv_of a).got + min (ahead a) 1 ≡ length a.runs.items
above-is a h = runs-is a.taken (high a) a.runs.items h.spaced

pub few-runs : (a : Inside) → IsQueue a → length a.runs.items ≤ 65
few-runs a h = let e = above-is a h in let f = h.few in omega (arith, e, f)

pub runs-are : (a : Inside) → IsQueue a → runs_of a.taken (recv_of a).got ≡ map shown a.runs.items
runs-are a h = cells-runs a.taken (high a) a.runs.items h.spaced

pub runs-count : (a : Inside) → IsQueue a → length (runs_of a.taken (recv_of a).got) ≡ length a.runs.items
runs-count a h = ap length (runs-are a h) ∙ length-map a.runs.items shown
