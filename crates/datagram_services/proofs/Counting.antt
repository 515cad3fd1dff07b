-- How many items each stream has.
use Rattle.std.proofs.Common.{◌≡◌, ℕ, ◌+◌, ◌<◌, zero, suc, IfSome, List, [], ◌∷◌, ◌++◌, length, map, take, get_or, slice_get, sym, ◌∙◌, arith}
use Rattle.std.proofs.lemmas.List.{length-map, take_more}
use Rattle.stream_plan.specs.Streams.{MorePlanOf, StreamOf, item_count}
use Rattle.datagram_services.specs.Fits.{counts_of}

count_at : (ss : List StreamOf) (c k : ℕ) → c < length ss → IfSome (slice_get ss c) (λ s. k ≡ item_count s) → k ≡ get_or (map item_count ss) c 0
count_at [] c k lt is = absurd (let no : ⊥ = omega (arith, lt) in no)
count_at (s ∷ ss) zero k lt is = is
count_at (s ∷ ss) (suc c) k lt is = count_at ss c k (omega (arith, lt)) is

-- one more is counted
pub one_counted : (p : MorePlanOf) (c k : ℕ) (had new : List ℕ) → c < length p.streams → had ≡ take c (counts_of p) → IfSome (slice_get p.streams c) (λ s. k ≡ item_count s)
    → new ≡ had ++ k ∷ [] → new ≡ take (c + 1) (counts_of p)
one_counted p c k had new lt was is more =
    let within : c < length (counts_of p) = omega (arith, lt, length-map p.streams item_count) in
    more ∙ ((λ i. was i ++ count_at p.streams c k lt is i ∷ []) ∙ sym (take_more (counts_of p) c 0 within))
