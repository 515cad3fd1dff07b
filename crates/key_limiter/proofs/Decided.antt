-- From buckets that decided all their requests to what passed.
use Rattle.std.proofs.Common.{◌≡◌, ℕ, ◌+◌, ◌<◌, Bool, List, [], ◌∷◌, ◌++◌, length, map, take, get_or, slice_index, ap, sym, ◌∙◌, arith}
use Rattle.std.proofs.lemmas.List.{map-append, take_all, take_more}
use Rattle.squeue.specs.Standing.{HasFed}
use Rattle.squeue.proofs.Rows.{limit_is}
use Rattle.key_limiter.specs.declared.limiter.Bucket.{Bucket}
use Rattle.key_limiter.specs.declared.limiter.Limit.{Limit}
use Rattle.key_limiter.specs.Buckets.{Decides, HasDecided, row_of}
use Rattle.key_limiter.specs.Limiting.{decisions_of}

-- a bucket that has decided all requests of its key
pub all_decided : (limit : Limit) (rows : List (List ℕ)) (counts : List ℕ) (c : ℕ) (k : Bucket) → counts ≡ map length rows → Decides limit (row_of rows c) k → HasFed (HasDecided k) (slice_index counts c)
    → k.passed.items ≡ decisions_of limit (row_of rows c)
all_decided limit rows counts c k are own fed =
    let row = row_of rows c in
    let n : length k.passed.items ≡ length row = sym fed.stands ∙ (fed.feeds ∙ (ap (λ (ns : List ℕ). slice_index ns c) are ∙ limit_is rows c)) in
    own.passed ∙ (ap (λ (m : ℕ). decisions_of limit (take m row)) n ∙ ap (decisions_of limit) (take_all (length row) row (omega arith)))

-- one key more
pub decided_more : (f : List ℕ → List Bool) (rows : List (List ℕ)) (c : ℕ) (one : List Bool) (had new : List (List Bool)) → c < length rows → had ≡ map f (take c rows) → one ≡ f (row_of rows c) → new ≡ had ++ one ∷ [] → new ≡ map f (take (c + 1) rows)
decided_more f rows c one had new lt so is more =
    more ∙ ((λ i. so i ++ is i ∷ []) ∙ sym (ap (map f) (take_more rows c [] lt) ∙ map-append f (take c rows) (get_or rows c [] ∷ [])))
