-- The part of a text that is offered next.
use Rattle.std.proofs.Common.{◌≡◌, ℕ, ◌+◌, ◌≤◌, List, ◌++◌, length, take, drop, min, ap, ◌∙◌, arith, length-append, length-take}
use Rattle.std.proofs.lemmas.List.{take_min}
use Rattle.byte_queues.proofs.ListLemmas.{drop_clamped}

pub told_text : (o room : ℕ) (text : List ℕ) → take (min room (length (drop (min o (length text)) text))) (drop (min o (length text)) text) ≡ take room (drop o text)
told_text o room text = take_min room (drop (min o (length text)) text) ∙ ap (take room) (drop_clamped o text)

pub told_length : (room : ℕ) (out text : List ℕ) → length (out ++ take room text) ≤ length out + room
told_length room out text = let e = length-append out (take room text) in let f = length-take room text in omega (arith, e, f)
