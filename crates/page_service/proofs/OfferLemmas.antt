-- Two texts are offered as one.
use Rattle.std.proofs.Common.{◌≡◌, ℕ, ◌+◌, ◌-◌, List, [], ◌∷◌, ◌++◌, length, take, drop, min, sym, ap, ◌∙◌, arith, append_assoc, length-append, length-take}
use Rattle.std.specs.Prelude.{suc, zero}
use Rattle.std.proofs.lemmas.List.{take_min}
use Rattle.byte_queues.specs.SendQueue.{room_of}
use Rattle.byte_queues.proofs.ListLemmas.{drop_clamped}
use Rattle.tcb_machine.specs.BlockState.{Block, offered}

-- the rest of a text, as it is cut
pub rest_offered : (from room : ℕ) (text : List ℕ) → take (min room (length (drop (min from (length text)) text))) (drop (min from (length text)) text) ≡ take room (drop from text)
rest_offered from room text = take_min room (drop (min from (length text)) text) ∙ ap (take room) (drop_clamped from text)

take-both : (n : ℕ) (xs ys : List ℕ) → take n xs ++ take (n - length (take n xs)) ys ≡ take n (xs ++ ys)
take-both zero xs ys = let e : 0 - 0 ≡ 0 = omega arith in ap (λ (k : ℕ). take k ys) e
take-both (suc n) [] ys = let e : suc n - 0 ≡ suc n = omega arith in ap (λ (k : ℕ). take k ys) e
take-both (suc n) (x ∷ xs) ys =
    let e : suc n - suc (length (take n xs)) ≡ n - length (take n xs) = omega arith in
    ap (λ (zs : List ℕ). x ∷ zs) (ap (λ (k : ℕ). take n xs ++ take k ys) e ∙ take-both n xs ys)

drop-both : (n : ℕ) (xs ys : List ℕ) → drop n (xs ++ ys) ≡ drop n xs ++ drop (n - length xs) ys
drop-both zero xs ys = let e : 0 - length xs ≡ 0 = omega arith in ap (λ (k : ℕ). xs ++ drop k ys) (sym e)
drop-both (suc n) [] ys = let e : suc n - 0 ≡ suc n = omega arith in ap (λ (k : ℕ). drop k ys) (sym e)
drop-both (suc n) (x ∷ xs) ys =
    let e : suc n - suc (length xs) ≡ n - length xs = omega arith in
    drop-both n xs ys ∙ ap (λ (k : ℕ). drop n xs ++ drop k ys) (sym e)

-- what is offered of the second text behind what was of the first
pub both_offered : (from : ℕ) (out head body : List ℕ)
    → (out ++ take (room_of out) (drop from head)) ++ take (room_of (out ++ take (room_of out) (drop from head))) (drop (from - length head) body)
    ≡ out ++ take (room_of out) (drop from (head ++ body))
both_offered from out head body =
    let n = room_of out in
    let xs = drop from head in
    let ys = drop (from - length head) body in
    let l = length-append out (take n xs) in
    let e : room_of (out ++ take n xs) ≡ n - length (take n xs) = omega (arith, l) in
    append_assoc out (take n xs) (take (room_of (out ++ take n xs)) ys)
    ∙ ap (λ (zs : List ℕ). out ++ zs) (ap (λ (k : ℕ). take n xs ++ take k ys) e ∙ (take-both n xs ys ∙ ap (take n) (sym (drop-both from head body))))

-- what was offered took up room
pub offered_kept : (from : ℕ) (b : Block) (text : List ℕ) → let c : Block = record b { out = b.out ++ take (room_of b.out) (drop from text) } in
    offered c + room_of c.out ≡ offered b + room_of b.out
unfolding offered
offered_kept from b text =
    let l = length-append b.out (take (room_of b.out) (drop from text)) in
    let t = length-take (room_of b.out) (drop from text) in
    omega (arith, l, t)
