-- How a ring's list grows, and which feeds it has.
use Rattle.std.proofs.Common.{◌≡◌, ◌≢◌, ℕ, zero, suc, ◌+◌, ◌%◌, ◌<◌, Bool, true, false, if◌then◌else◌, ◌==◌, List, [], ◌∷◌, ◌++◌, length, take, get_or, slice_index, refl, ap, sym, ◌∙◌, arith, append_assoc}
use Rattle.std.proofs.lemmas.List.{append-nil, take_more}
use Rattle.std.proofs.lemmas.Bool.Decides.{nat_tests}
use Rattle.perimeter_core.specs.declared.entries.Feed.{Feed as FeedOf}
use Rattle.perimeter_core.specs.Deeds.{entries, feeds_of}
use Rattle.histories.specs.Lists.{items_of, list_of}

-- one feed more of a key
pub items_end : (c n k : ℕ) → items_of c n (suc k) ≡ items_of c n k ++ record { c = c; n = n + k } ∷ []
items_end c n zero = ap (λ (m : ℕ). record { c = c; n = m } ∷ []) (let e : n ≡ n + 0 = omega arith in e)
items_end c n (suc k) =
    ap (λ (fs : List FeedOf). record { c = c; n = n } ∷ fs) (items_end c (suc n) k ∙ ap (λ (m : ℕ). items_of c (suc n) k ++ record { c = c; n = m } ∷ []) (let e : suc n + k ≡ n + suc k = omega arith in e))

pub items_more : (c n : ℕ) (xs ys new : List FeedOf) → new ≡ ys ++ record { c = c; n = n } ∷ [] → ys ≡ xs ++ items_of c 0 n → new ≡ xs ++ items_of c 0 (n + 1)
items_more c n xs ys new is had =
    let z : 0 + n ≡ n = omega arith in
    let one : suc n ≡ n + 1 = omega arith in
    is ∙ (ap (λ (fs : List FeedOf). fs ++ record { c = c; n = n } ∷ []) had ∙ (append_assoc xs (items_of c 0 n) (record { c = c; n = n } ∷ [])
    ∙ ap (λ (fs : List FeedOf). xs ++ fs) (ap (λ (m : ℕ). items_of c 0 n ++ record { c = c; n = m } ∷ []) (sym z) ∙ (sym (items_end c 0 n) ∙ ap (items_of c 0) one))))

-- one key more
list_end : (rings r c k : ℕ) (counts : List ℕ) → list_of rings r c (counts ++ k ∷ []) ≡ list_of rings r c counts ++ (if (c + length counts) % rings == r then items_of (c + length counts) 0 k else [])
list_end rings r c k [] =
    let z : c ≡ c + 0 = omega arith in
    append-nil (if c % rings == r then items_of c 0 k else []) ∙ ap (λ (d : ℕ). if d % rings == r then items_of d 0 k else []) z
list_end rings r c k (x ∷ counts) =
    let first = (if c % rings == r then items_of c 0 x else []) in
    let z : suc c + length counts ≡ c + suc (length counts) = omega arith in
    ap (λ (fs : List FeedOf). first ++ fs) (list_end rings r (suc c) k counts ∙ ap (λ (d : ℕ). list_of rings r (suc c) counts ++ (if d % rings == r then items_of d 0 k else [])) z)
    ∙ sym (append_assoc first (list_of rings r (suc c) counts) (if (c + suc (length counts)) % rings == r then items_of (c + suc (length counts)) 0 k else []))

pub list_more : (rings r c : ℕ) (counts : List ℕ) (had new : List FeedOf) → c < length counts → had ≡ list_of rings r 0 (take c counts) → new ≡ had ++ (if c % rings == r then items_of c 0 (get_or counts c 0) else [])
    → new ≡ list_of rings r 0 (take (c + 1) counts)
list_more rings r c counts had new lt was is =
    let z : 0 + length (take c counts) ≡ c = length_take counts c lt in
    is ∙ (ap (λ (fs : List FeedOf). fs ++ (if c % rings == r then items_of c 0 (get_or counts c 0) else [])) was
    ∙ (ap (λ (d : ℕ). list_of rings r 0 (take c counts) ++ (if d % rings == r then items_of d 0 (get_or counts c 0) else [])) (sym z)
    ∙ (sym (list_end rings r 0 (get_or counts c 0) (take c counts)) ∙ ap (list_of rings r 0) (sym (take_more counts c 0 lt)))))
  where
    length_take : (xs : List ℕ) (n : ℕ) → n < length xs → 0 + length (take n xs) ≡ n
    length_take [] n h = absurd (omega arith)
    length_take (x ∷ xs) zero h = refl
    length_take (x ∷ xs) (suc n) h = let r = length_take xs n (omega arith) in omega (arith, r)

pub list_taken : (rings r c k : ℕ) (counts : List ℕ) (had new : List FeedOf) → c < length counts → had ≡ list_of rings r 0 (take c counts) → c % rings ≡ r → k ≡ get_or counts c 0 → new ≡ had ++ items_of c 0 k → new ≡ list_of rings r 0 (take (c + 1) counts)
list_taken rings r c k counts had new lt was mine count is =
    let b : (c % rings == r) ≡ true = grind (arith, nat_tests) in
    list_more rings r c counts had new lt was (rw (b, ← count) is)

pub list_skipped : (rings r c : ℕ) (counts : List ℕ) (had new : List FeedOf) → c < length counts → had ≡ list_of rings r 0 (take c counts) → c % rings ≢ r → new ≡ had → new ≡ list_of rings r 0 (take (c + 1) counts)
list_skipped rings r c counts had new lt was other is =
    let b : (c % rings == r) ≡ false = grind (arith, nat_tests) in
    list_more rings r c counts had new lt was (rw b (is ∙ sym (append-nil had)))

pub length_items : (c n k : ℕ) → length (items_of c n k) ≡ k
length_items c n zero = refl
length_items c n (suc k) = ap suc (length_items c (suc n) k)

-- how many feeds of a key two lists have together
pub count_append : (c : ℕ) (es fs : List FeedOf) → length (feeds_of c (entries (es ++ fs))) ≡ length (feeds_of c (entries es)) + length (feeds_of c (entries fs))
count_append c [] fs = omega arith
count_append c (e ∷ es) fs = by (e.c == c) (count_append c es fs)
  where
    by : (b : Bool) → length (feeds_of c (entries (es ++ fs))) ≡ length (feeds_of c (entries es)) + length (feeds_of c (entries fs)) → length (if b then e.n ∷ feeds_of c (entries (es ++ fs)) else feeds_of c (entries (es ++ fs))) ≡ length (if b then e.n ∷ feeds_of c (entries es) else feeds_of c (entries es)) + length (feeds_of c (entries fs))
    by true r = omega (arith, r)
    by false r = r

-- how many feeds of a key a list has
pub same_key : (c n k : ℕ) → length (feeds_of c (entries (items_of c n k))) ≡ k
same_key c n zero = refl
same_key c n (suc k) = let b : (c == c) ≡ true = grind (arith, nat_tests) in rw b (ap suc (same_key c (suc n) k))

pub other_key : (c d n k : ℕ) → d ≢ c → length (feeds_of d (entries (items_of c n k))) ≡ 0
other_key c d n zero h = refl
other_key c d n (suc k) h = let b : (c == d) ≡ false = grind (arith, nat_tests) in rw b (other_key c d (suc n) k h)

other_if : (b : Bool) (c d k : ℕ) → d ≢ c → length (feeds_of d (entries (if b then items_of c 0 k else []))) ≡ 0
other_if true c d k h = other_key c d 0 k h
other_if false c d k h = refl

none_before : (rings r c d : ℕ) (counts : List ℕ) → d < c → length (feeds_of d (entries (list_of rings r c counts))) ≡ 0
none_before rings r c d [] h = refl
none_before rings r c d (k ∷ counts) h =
    omega (arith, count_append d (if c % rings == r then items_of c 0 k else []) (list_of rings r (suc c) counts), other_if (c % rings == r) c d k (omega arith), none_before rings r (suc c) d counts (omega arith))

all_from : (rings r c i : ℕ) (counts : List ℕ) → r ≡ (c + i) % rings → length (feeds_of (c + i) (entries (list_of rings r c counts))) ≡ slice_index counts i
all_from rings r c i [] is = refl
all_from rings r c zero (k ∷ counts) is =
    let z : c + 0 ≡ c = omega arith in
    let b : (c % rings == r) ≡ true = (let e : r ≡ c % rings = is ∙ ap (λ (d : ℕ). d % rings) z in grind (arith, nat_tests)) in
    rw (z, b) (omega (arith, count_append c (items_of c 0 k) (list_of rings r (suc c) counts), same_key c 0 k, none_before rings r (suc c) c counts (omega arith)))
all_from rings r c (suc i) (k ∷ counts) is =
    let z : c + suc i ≡ suc c + i = omega arith in
    rw z (omega (arith, count_append (suc c + i) (if c % rings == r then items_of c 0 k else []) (list_of rings r (suc c) counts), other_if (c % rings == r) c (suc c + i) k (omega arith), all_from rings r (suc c) i counts (is ∙ ap (λ (d : ℕ). d % rings) z)))

-- the ring of a key has all its feeds
pub has_all : (rings c : ℕ) (counts : List ℕ) (r : ℕ) → r ≡ c % rings → length (feeds_of c (entries (list_of rings r 0 counts))) ≡ slice_index counts c
has_all rings c counts r is =
    let z : 0 + c ≡ c = omega arith in
    rw z at (all_from rings r 0 c counts (is ∙ ap (λ (d : ℕ). d % rings) (sym z)))
