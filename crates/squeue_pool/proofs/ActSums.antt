-- A sum over all acts of a part: one over its feeds, and one over the calls that were made on it.
use Rattle.std.proofs.Common.{◌≡◌, ℕ, zero, suc, ◌+◌, ◌<◌, ◌≤◌, ◌==◌, ◌&&◌, Bool, true, false, if◌then◌else◌, Option, Some, None, List, [], ◌∷◌, get_or, slice_get, length, refl, ap, ◌∙◌, arith, eq-eqb}
use Rattle.std.specs.Prelude.{sum_by}
use Rattle.std.specs.Option.{option_map_or}
use Rattle.std.proofs.lemmas.Bool.Decides.{nat_tests}
use Rattle.std.proofs.lemmas.List.Sums.{sum_by-cons}
use Rattle.perimeter_core.specs.declared.entries.Act.{Act}
use Rattle.perimeter_core.specs.declared.entries.Act.TheVariants as Did
use Rattle.perimeter_core.specs.Backlog.{up}
use Rattle.perimeter_core.specs.Deeds.{feed_numbers}
use Rattle.squeue_rings.specs.Made.{once_on}
use Rattle.squeue_rings.specs.Doing.{called_by}
use Rattle.squeue_pool.specs.Counting.{times_called}
use Rattle.squeue_pool.specs.Calls.{HadBoth}

-- a sum over the places of a list, and of all lists of a table
pub row_sum : (ℕ → ℕ) → List ℕ → ℕ
row_sum f [] = 0
row_sum f (x ∷ xs) = f 0 + row_sum (λ k. f (suc k)) xs

pub table_sum : (ℕ → ℕ → ℕ) → List (List ℕ) → ℕ
table_sum f [] = 0
table_sum f (xs ∷ rows) = row_sum (f 0) xs + table_sum (λ j. f (suc j)) rows

pub row_none : (f : ℕ → ℕ) → row_sum f [] ≡ 0
unfolding row_sum
row_none f = refl

pub row_more : (f : ℕ → ℕ) (x : ℕ) (xs : List ℕ) → row_sum f (x ∷ xs) ≡ f 0 + row_sum (λ k. f (suc k)) xs
unfolding row_sum
row_more f x xs = refl

pub table_none : (f : ℕ → ℕ → ℕ) → table_sum f [] ≡ 0
unfolding table_sum
table_none f = refl

pub table_more : (f : ℕ → ℕ → ℕ) (xs : List ℕ) (rows : List (List ℕ)) → table_sum f (xs ∷ rows) ≡ row_sum (f 0) xs + table_sum (λ j. f (suc j)) rows
unfolding table_sum
table_more f xs rows = refl

row_zeros : (xs : List ℕ) → row_sum (λ k. 0) xs ≡ 0
unfolding row_sum
row_zeros [] = refl
row_zeros (x ∷ xs) = omega (arith, row_zeros xs)

table_zeros : (rows : List (List ℕ)) → table_sum (λ j k. 0) rows ≡ 0
unfolding table_sum
table_zeros [] = refl
table_zeros (xs ∷ rows) = omega (arith, row_zeros xs, table_zeros rows)

row_both : (f g : ℕ → ℕ) (xs : List ℕ) → row_sum (λ k. f k + g k) xs ≡ row_sum f xs + row_sum g xs
unfolding row_sum
row_both f g [] = refl
row_both f g (x ∷ xs) = omega (arith, row_both (λ k. f (suc k)) (λ k. g (suc k)) xs)

table_both : (f g : ℕ → ℕ → ℕ) (rows : List (List ℕ)) → table_sum (λ j k. f j k + g j k) rows ≡ table_sum f rows + table_sum g rows
unfolding table_sum
table_both f g [] = refl
table_both f g (xs ∷ rows) = omega (arith, row_both (f 0) (g 0) xs, table_both (λ j. f (suc j)) (λ j. g (suc j)) rows)

zero_suc : (k : ℕ) → (0 == suc k) ≡ false
zero_suc k = grind (arith, nat_tests)

suc_zero : (k : ℕ) → (suc k == 0) ≡ false
suc_zero k = grind (arith, nat_tests)

both_suc : (m k : ℕ) → (suc m == suc k) ≡ (m == k)
both_suc m k = grind (arith, nat_tests)

-- a sum in which one place alone has a value
row_hit : (f : ℕ → ℕ) (xs : List ℕ) (m d : ℕ) → slice_get xs m ≡ Some d → row_sum (λ k. if m == k then f k else 0) xs ≡ f m
unfolding row_sum
row_hit f [] m d at = cc at
row_hit f (x ∷ xs) zero d at =
    let first = ap (λ (b : Bool). if b then f 0 else 0) (eq-eqb 0 0 refl) in
    let none : row_sum (λ k. if 0 == suc k then f (suc k) else 0) xs ≡ 0 = (λ i. row_sum (λ k. if zero_suc k i then f (suc k) else 0) xs) ∙ row_zeros xs in
    omega (arith, first, none)
row_hit f (x ∷ xs) (suc m) d at =
    let first = ap (λ (b : Bool). if b then f 0 else 0) (suc_zero m) in
    let rest : row_sum (λ k. if suc m == suc k then f (suc k) else 0) xs ≡ f (suc m) =
    (λ i. row_sum (λ k. if both_suc m k i then f (suc k) else 0) xs) ∙ row_hit (λ k. f (suc k)) xs m d at in
    omega (arith, first, rest)

table_hit : (f : ℕ → ℕ → ℕ) (rows : List (List ℕ)) (i m d : ℕ) → slice_get (called_by rows i) m ≡ Some d → table_sum (λ j k. if (i == j) && (m == k) then f j k else 0) rows ≡ f i m
unfolding table_sum
table_hit f [] i m d at = cc at
table_hit f (xs ∷ rows) zero m d at =
    let here : row_sum (λ k. if (0 == 0) && (m == k) then f 0 k else 0) xs ≡ f 0 m =
    (λ i. row_sum (λ k. if eq-eqb 0 0 refl i && (m == k) then f 0 k else 0) xs) ∙ row_hit (f 0) xs m d at in
    let none : table_sum (λ j k. if (0 == suc j) && (m == k) then f (suc j) k else 0) rows ≡ 0 =
    (λ i. table_sum (λ j k. if zero_suc j i && (m == k) then f (suc j) k else 0) rows) ∙ table_zeros rows in
    omega (arith, here, none)
table_hit f (xs ∷ rows) (suc i) m d at =
    let none : row_sum (λ k. if (suc i == 0) && (m == k) then f 0 k else 0) xs ≡ 0 =
    (λ t. row_sum (λ k. if suc_zero i t && (m == k) then f 0 k else 0) xs) ∙ row_zeros xs in
    let rest : table_sum (λ j k. if (suc i == suc j) && (m == k) then f (suc j) k else 0) rows ≡ f (suc i) m =
    (λ t. table_sum (λ j k. if both_suc i j t && (m == k) then f (suc j) k else 0) rows) ∙ table_hit (λ j. f (suc j)) rows i m d at in
    omega (arith, none, rest)

module _ (v : ℕ → ℕ → ℕ) where
  -- what the calls j, k among the acts are worth together
  abbrev worth : ℕ → ℕ → List Act → ℕ
  worth j k [] = 0
  worth j k (Did.Feed n ∷ had) = worth j k had
  worth j k (Did.Call i m ∷ had) = (if (i == j) && (m == k) then v j k else 0) + worth j k had

  worth_none : (j k : ℕ) (had : List Act) → times_called j k had ≡ 0 → worth j k had ≡ 0
  worth_none j k [] e = refl
  worth_none j k (Did.Feed n ∷ had) e = worth_none j k had e
  worth_none j k (Did.Call i m ∷ had) e = by ((i == j) && (m == k)) e (worth_none j k had)
    where
      by : (b : Bool) → (if b then 1 else 0) + times_called j k had ≡ 0 → (times_called j k had ≡ 0 → worth j k had ≡ 0) → (if b then v j k else 0) + worth j k had ≡ 0
      by true e rest = absurd (omega (arith, e))
      by false e rest = let r = rest (omega (arith, e)) in omega (arith, r)

  worth_one : (j k : ℕ) (had : List Act) → times_called j k had ≡ 1 → worth j k had ≡ v j k
  worth_one j k [] e = absurd (omega (arith, e))
  worth_one j k (Did.Feed n ∷ had) e = worth_one j k had e
  worth_one j k (Did.Call i m ∷ had) e = by ((i == j) && (m == k)) e (worth_one j k had) (worth_none j k had)
    where
      by : (b : Bool) → (if b then 1 else 0) + times_called j k had ≡ 1 → (times_called j k had ≡ 1 → worth j k had ≡ v j k) → (times_called j k had ≡ 0 → worth j k had ≡ 0)
          → (if b then v j k else 0) + worth j k had ≡ v j k
      by true e one none = let r = none (omega (arith, e)) in omega (arith, r)
      by false e one none = let r = one (omega (arith, e)) in omega (arith, r)

  -- a call that is made once where it is on connection c, and else never
  worth_once : (c j k : ℕ) (o : Option ℕ) (had : List Act) → times_called j k had ≡ option_map_or (λ d. if d == c then 1 else 0) o 0
      → worth j k had ≡ option_map_or (λ d. if d == c then v j k else 0) o 0
  worth_once c j k None had e = worth_none j k had e
  worth_once c j k (Some d) had e = by (d == c) e
    where
      by : (b : Bool) → times_called j k had ≡ (if b then 1 else 0) → worth j k had ≡ (if b then v j k else 0)
      by true e = worth_one j k had e
      by false e = worth_none j k had e

  -- each call among the acts has a place in the lists
  abbrev HavePlaces : List (List ℕ) → List Act → Type 0
  HavePlaces calls had = (j k : ℕ) → 0 < times_called j k had → (d : ℕ) × (slice_get (called_by calls j) k ≡ Some d)

  have_rest : (calls : List (List ℕ)) (i m : ℕ) (had : List Act) → HavePlaces calls (Did.Call i m ∷ had) → HavePlaces calls had
  have_rest calls i m had h j k lt = h j k (let le = more ((i == j) && (m == k)) in omega (arith, lt, le))
    where
      more : (b : Bool) → times_called j k had ≤ (if b then 1 else 0) + times_called j k had
      more true = omega arith
      more false = omega arith

module _ (w : Act → ℕ) where
  abbrev of_call : ℕ → ℕ → ℕ
  of_call j k = w (Did.Call j k)

  split : (calls : List (List ℕ)) (had : List Act) → HavePlaces of_call calls had
      → sum_by w had ≡ sum_by (λ n. w (Did.Feed n)) (feed_numbers had) + table_sum (λ j k. worth of_call j k had) calls
  split calls [] h = let none = table_zeros calls in omega (arith, none)
  split calls (Did.Feed n ∷ had) h =
      let rest = split calls had h in
      let all = sum_by-cons w (Did.Feed n) had in
      let feeds = sum_by-cons (λ (m : ℕ). w (Did.Feed m)) n (feed_numbers had) in
      omega (arith, rest, all, feeds)
  split calls (Did.Call i m ∷ had) h =
      let rest = split calls had (have_rest of_call calls i m had h) in
      let all = sum_by-cons w (Did.Call i m) had in
      let place = h i m (let one : ((i == i) && (m == m)) ≡ true = (λ t. eq-eqb i i refl t && eq-eqb m m refl t) in let is = ap (λ (b : Bool). (if b then 1 else 0) + times_called i m had) one in omega (arith, is)) in
      let both = table_both (λ j k. if (i == j) && (m == k) then of_call j k else 0) (λ j k. worth of_call j k had) calls in
      let hit = table_hit of_call calls i m place.0 place.1 in
      omega (arith, rest, all, both, hit)

  -- each call that there is has a place
  places : (calls : List (List ℕ)) (c : ℕ) (had : List Act) → ((j k : ℕ) → times_called j k had ≡ once_on (called_by calls j) c k) → HavePlaces of_call calls had
  places calls c had once j k lt = by (slice_get (called_by calls j) k) refl (once j k)
    where
      by : (o : Option ℕ) → slice_get (called_by calls j) k ≡ o → times_called j k had ≡ option_map_or (λ d. if d == c then 1 else 0) o 0 → (d : ℕ) × (slice_get (called_by calls j) k ≡ Some d)
      by None e is = absurd (omega (arith, lt, is))
      by (Some d) e is = (d, e)

  -- all that a part has had, where each call on its connection was made once
  pub sum_of_all : (Stands : List Act → Type 0) (feeds : ℕ) (calls : List (List ℕ)) (c : ℕ) (h : HadBoth Stands feeds calls c)
      → sum_by w h.had ≡ sum_by (λ n. w (Did.Feed n)) (up 0 feeds) + table_sum (λ j k. option_map_or (λ d. if d == c then of_call j k else 0) (slice_get (called_by calls j) k) 0) calls
  sum_of_all Stands feeds calls c h =
      split calls h.had (places calls c h.had h.called_all)
      ∙ (λ i. sum_by (λ n. w (Did.Feed n)) ((h.numbered ∙ ap (up 0) h.fed_all) i)
      + table_sum (λ j k. worth_once of_call c j k (slice_get (called_by calls j) k) h.had (h.called_all j k) i) calls)

-- the sum over the numbers of all items of a list is that of its items
pub sum_of_items : (f : ℕ → ℕ) (d : ℕ) (xs : List ℕ) → sum_by (λ n. f (get_or xs n d)) (up 0 (length xs)) ≡ sum_by f xs
sum_of_items f d [] = refl
sum_of_items f d (x ∷ xs) =
    let first = sum_by-cons (λ (n : ℕ). f (get_or (x ∷ xs) n d)) 0 (up 1 (length xs)) in
    let later = shifted (λ n. f (get_or (x ∷ xs) n d)) 0 (length xs) in
    let rest = sum_of_items f d xs in
    let all = sum_by-cons f x xs in
    omega (arith, first, later, rest, all)
  where
    shifted : (g : ℕ → ℕ) (a n : ℕ) → sum_by g (up (suc a) n) ≡ sum_by (λ k. g (suc k)) (up a n)
    shifted g a zero = refl
    shifted g a (suc n) =
        let one = sum_by-cons g (suc a) (up (suc (suc a)) n) in
        let two = sum_by-cons (λ (k : ℕ). g (suc k)) a (up (suc a) n) in
        let rest = shifted g (suc a) n in
        omega (arith, one, two, rest)
