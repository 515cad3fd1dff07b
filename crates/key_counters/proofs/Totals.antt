-- From parts that had all their feeds to the totals.
use Rattle.std.proofs.Common.{◌≡◌, ℕ, ◌+◌, ◌<◌, Bool, true, false, if◌then◌else◌, Some, None, List, [], ◌∷◌, ◌++◌, length, map, take, sum, get_or, slice_index, refl, ap, sym, ◌∙◌, arith}
use Rattle.std.proofs.lemmas.List.{map-append, take_all, take_more}
use Rattle.squeue.specs.declared.Act.{Act}
use Rattle.squeue.specs.Standing.{HasFed}
use Rattle.key_counters.specs.declared.counters.Counter.{Counter}
use Rattle.key_counters.specs.Counting.{HasAdded, IsPartOf, row_of}
use Rattle.squeue.proofs.Rows.{limit_is}
use Rattle.key_counters.proofs.CounterSteps.{had_feeds_is}

pub none_yet : (b : Bool) (had : List Act) → (if b then Some [] else None) ≡ Some had → had ≡ []
none_yet true had h = cc h
none_yet false had h = cc h

-- a counter that has had all its amounts has their sum
pub one_total : (rows : List (List ℕ)) (counts : List ℕ) (c : ℕ) (k : Counter) → counts ≡ map length rows → IsPartOf rows c k → HasFed (HasAdded k) (slice_index counts c) → k.total ≡ sum (row_of rows c)
one_total rows counts c k are own fed =
    let had : k.had ≡ length (row_of rows c) = had_feeds_is k (slice_index counts c) fed ∙ (ap (λ (ns : List ℕ). slice_index ns c) are ∙ limit_is rows c) in
    own.total ∙ (ap (λ (n : ℕ). sum (take n (row_of rows c))) had ∙ ap sum (take_all (length (row_of rows c)) (row_of rows c) (omega arith)))

-- one total more
pub totals_more : (rows : List (List ℕ)) (c total : ℕ) (had new : List ℕ) → c < length rows → had ≡ map sum (take c rows) → total ≡ sum (row_of rows c) → new ≡ had ++ total ∷ [] → new ≡ map sum (take (c + 1) rows)
totals_more rows c total had new lt so is more =
    more ∙ ((λ i. so i ++ is i ∷ []) ∙ sym (ap (map sum) (take_more rows c [] lt) ∙ map-append sum (take c rows) (get_or rows c [] ∷ [])))

pub sums_of : {V : Type 0} (items : V → List ℕ) (xs : List V) → map sum (map items xs) ≡ map (λ x. sum (items x)) xs
sums_of items [] = refl
sums_of items (x ∷ xs) = ap (λ ns. sum (items x) ∷ ns) (sums_of items xs)
