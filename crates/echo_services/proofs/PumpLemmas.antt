-- So many bytes at most are taken as were asked for.
use Rattle.std.proofs.Common.{ℕ, ◌+◌, ◌++◌, ◌≤◌, length-append, List, [], ◌∷◌, None, Some, length, take, arith, length-take}
use Rattle.byte_queues.specs.ReceiveQueue.{Recv, Cells, bytes, next_bytes}

bytes-length : (cs : Cells) → length (bytes cs) ≤ length cs
bytes-length [] = omega arith
bytes-length (None ∷ cs) = let e = bytes-length cs in omega (arith, e)
bytes-length (Some x ∷ cs) = let e = bytes-length cs in omega (arith, e)

pub next_length : (n : ℕ) (q : Recv) → length (next_bytes n q) ≤ n
unfolding next_bytes
next_length n q = let e = bytes-length (take n q.got) in let f = length-take n q.got in omega (arith, e, f)

pub echo_length : (n : ℕ) (q : Recv) (out : List ℕ) → length (out ++ next_bytes n q) ≤ length out + n
echo_length n q out = let e = next_length n q in let f = length-append out (next_bytes n q) in omega (arith, e, f)
