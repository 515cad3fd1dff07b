-- Feeds of one connection in order.
use Rattle.std.proofs.Common.{◌≡◌, ◌<◌, ℕ, zero, suc, ◌+◌, List, [], ◌∷◌, ◌++◌, length, take, slice_set, refl, ap, ◌∙◌, arith}
use Rattle.perimeter_core.specs.declared.entries.Feed.{Feed}
use Rattle.squeue_tests.specs.Rows.{in_order}

-- one more at the end
pub order_more : (c n count : ℕ) → in_order c n (suc count) ≡ in_order c n count ++ record { c = c; n = n + count } ∷ []
order_more c n zero = let same : n ≡ n + 0 = omega arith in ap (λ (m : ℕ). record { c = c; n = m } ∷ []) same
order_more c n (suc count) =
    let same : suc n + count ≡ n + suc count = omega arith in
    ap (λ (fs : List Feed). record { c = c; n = n } ∷ fs) (order_more c (suc n) count ∙ ap (λ (m : ℕ). in_order c (suc n) count ++ record { c = c; n = m } ∷ []) same)

-- the list up to a place that was set
pub set_more : {A : Type 0} (xs : List A) (n : ℕ) (x : A) → n < length xs → take (suc n) (slice_set xs n x) ≡ take n xs ++ x ∷ []
set_more [] n x lt = absurd (omega (arith, lt))
set_more (y ∷ xs) zero x lt = refl
set_more (y ∷ xs) (suc n) x lt = ap (λ ys. y ∷ ys) (set_more xs n x (omega (arith, lt)))

-- the first of the feeds from n on
pub first_of : (c n count rest : ℕ) → count ≡ suc rest → in_order c n count ≡ record { c = c; n = n } ∷ in_order c (n + 1) rest
first_of c n count rest is =
    let next : suc n ≡ n + 1 = omega arith in
    ap (in_order c n) is ∙ ap (λ (m : ℕ). record { c = c; n = n } ∷ in_order c m rest) next
