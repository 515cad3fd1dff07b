-- How many bytes all hold.
use Rattle.std.proofs.Common.{◌≡◌, ℕ, zero, suc, ◌+◌, ◌-◌, ◌^◌, ◌<◌, ◌≤◌, min, [], ◌∷◌, length, take, refl, ap, ◌∙◌, arith, add-one}
use Rattle.tcb_machine.specs.BlockState.{held_in, new_block}
use Rattle.live_server.specs.Acts.{no_conn}
use Rattle.live_server.specs.Table.{Conns, conn_at, held_by, total_of}

pub none_holds : held_in no_conn.tcb ≡ 0
unfolding new_block
none_holds = refl

total_more : (cs : Conns) (i : ℕ) → i < length cs → total_of (take (suc i) cs) ≡ total_of (take i cs) + held_in (conn_at i cs).tcb
total_more [] i lt = absurd (omega arith)
total_more (c ∷ cs) zero lt = omega arith
total_more (c ∷ cs) (suc i) lt = let more = total_more cs i (omega arith) in omega (arith, more)

pub held_more : (cs : Conns) (i before after : ℕ) → i < length cs → before ≡ min (2 ^ 64 - 1) (total_of (take i cs)) → after ≡ min (2 ^ 64 - 1) (before + held_in (conn_at i cs).tcb)
    → after ≡ min (2 ^ 64 - 1) (total_of (take (i + 1) cs))
held_more cs i before after lt so_far more =
    let step = total_more cs i lt in
    let next : total_of (take (i + 1) cs) ≡ total_of (take (suc i) cs) = ap (λ n. total_of (take n cs)) (add-one i) in
    omega (arith, step, next, so_far, more)

total_all : (cs : Conns) (i : ℕ) → length cs ≤ i → total_of (take i cs) ≡ total_of cs
total_all [] zero past = refl
total_all [] (suc i) past = refl
total_all (c ∷ cs) zero past = absurd (omega arith)
total_all (c ∷ cs) (suc i) past = ap (λ n. held_in c.1.tcb + n) (total_all cs i (omega arith))

pub held_all : (cs : Conns) (i total : ℕ) → length cs ≤ i → total ≡ min (2 ^ 64 - 1) (total_of (take i cs)) → total ≡ held_by cs
held_all cs i total past so_far = so_far ∙ ap (λ n. min (2 ^ 64 - 1) n) (total_all cs i past)
