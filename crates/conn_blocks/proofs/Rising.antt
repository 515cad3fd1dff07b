-- Lists of numbers that rise: a place splits what is below it from what is above.
use Rattle.std.proofs.Common.{◌≡◌, ℕ, ◌+◌, ◌==◌, ◌<◌, ◌≤◌, ◌||◌, suc, Bool, true, false, List, [], ◌∷◌, ◌++◌, cond, refl, sym, ap, subst, ◌∙◌, arith, eq-eqb}
use Rattle.std.specs.Prelude.{nat_lt, filter, take_while, if◌then◌else◌}
use Rattle.std.specs.List.{list_any, list_all, prefix_len}
use Rattle.std.proofs.lemmas.Bool.{eqb-true, ne_eqb, lt-ltb, le-ltb, and_parts, or_right, or_left, both_ways}
use Rattle.tcb_machine.specs.declared.kinds.Call.{Call}
use Rattle.conn_blocks.specs.Orders.{numbers_from}

abbrev pub Up : ℕ → List ℕ → Type 0
Up least [] = Unit {0}
Up least (x ∷ xs) = (least ≤ x) × Up (suc x) xs

abbrev pub has : ℕ → List ℕ → Bool
has k xs = list_any (λ i. i == k) xs

up_weaker : (m n : ℕ) (xs : List ℕ) → m ≤ n → Up n xs → Up m xs
up_weaker m n [] le h = tt
up_weaker m n (x ∷ xs) le h = (let first = h.0 in omega (arith, first), h.1)

pub up_numbers : (c n : ℕ) (xs : List (ℕ × Call)) → Up n (numbers_from n c xs)
up_numbers c n [] = tt
up_numbers c n (x ∷ xs) = by (x.0 == c) (up_numbers c (suc n) xs)
  where
    by : (b : Bool) → Up (suc n) (numbers_from (suc n) c xs) → Up n (if b then n ∷ numbers_from (suc n) c xs else numbers_from (suc n) c xs)
    by true h = (omega arith, h)
    by false h = up_weaker n (suc n) (numbers_from (suc n) c xs) (omega arith) h

-- what is below all of a rising list isn't in it
pub none_below : (n k : ℕ) (xs : List ℕ) → Up n xs → k < n → has k xs ≡ false
none_below n k [] h lt = refl
none_below n k (x ∷ xs) h lt =
    let first = h.0 in
    let other : (x == k) ≡ false = ne_eqb x k (λ e. (let no : ⊥ = omega (arith, e, first, lt) in no)) in
    rw other (none_below (suc x) k xs h.1 (omega (arith, first, lt)))

pub up_behind : (n : ℕ) (xs ys : List ℕ) → Up n (xs ++ ys) → Up n ys
up_behind n [] ys h = h
up_behind n (x ∷ xs) ys h = let first = h.0 in up_weaker n (suc x) ys (omega (arith, first)) (up_behind (suc x) xs ys h.1)

-- a number of a rising list, what stands before it and what behind
module _ (k : ℕ) (rest : List ℕ) where
  at_least : (n : ℕ) (xs : List ℕ) → Up n (xs ++ k ∷ rest) → n ≤ k
  at_least n [] h = h.0
  at_least n (x ∷ xs) h = let first = h.0 in let more = at_least (suc x) xs h.1 in omega (arith, first, more)

  pub not_before : (n : ℕ) (xs : List ℕ) → Up n (xs ++ k ∷ rest) → has k xs ≡ false
  not_before n [] h = refl
  not_before n (x ∷ xs) h =
      let more = at_least (suc x) xs h.1 in
      let other : (x == k) ≡ false = ne_eqb x k (λ e. (let no : ⊥ = omega (arith, e, more) in no)) in
      rw other (not_before (suc x) xs h.1)

  none_less : (n : ℕ) (ys : List ℕ) → k ≤ n → Up n ys → filter (λ i. nat_lt i k) ys ≡ []
  none_less n [] le h = refl
  none_less n (y ∷ ys) le h =
      let first = h.0 in
      let above : nat_lt y k ≡ false = le-ltb y k (omega (arith, first, le)) in
      rw above (none_less (suc y) ys (omega (arith, first, le)) h.1)

  all_more : (n : ℕ) (ys : List ℕ) → k < n → Up n ys → filter (λ i. nat_lt k i) ys ≡ ys
  all_more n [] lt h = refl
  all_more n (y ∷ ys) lt h =
      let first = h.0 in
      let above : nat_lt k y ≡ true = lt-ltb k y (omega (arith, first, lt)) in
      rw above (ap (λ l. y ∷ l) (all_more (suc y) ys (omega (arith, first, lt)) h.1))

  pub before : (n : ℕ) (xs : List ℕ) → Up n (xs ++ k ∷ rest) → filter (λ i. nat_lt i k) (xs ++ k ∷ rest) ≡ xs
  before n [] h = none_less k (k ∷ rest) (omega arith) (omega arith, h.1)
  before n (x ∷ xs) h =
      let more = at_least (suc x) xs h.1 in
      let less : nat_lt x k ≡ true = lt-ltb x k (omega (arith, more)) in
      rw less (ap (λ l. x ∷ l) (before (suc x) xs h.1))

  pub behind : (n : ℕ) (xs : List ℕ) → Up n (xs ++ k ∷ rest) → filter (λ i. nat_lt k i) (xs ++ k ∷ rest) ≡ rest
  behind n [] h = let same : nat_lt k k ≡ false = le-ltb k k (omega arith) in rw same (all_more (suc k) rest (omega arith) h.1)
  behind n (x ∷ xs) h =
      let more = at_least (suc x) xs h.1 in
      let less : nat_lt k x ≡ false = le-ltb k x (omega (arith, more)) in
      rw less (behind (suc x) xs h.1)

pub has_append : (k : ℕ) (xs ys : List ℕ) → has k (xs ++ ys) ≡ (has k xs || has k ys)
has_append k [] ys = refl
has_append k (x ∷ xs) ys = by (x == k) (has_append k xs ys)
  where
    by : (b : Bool) → has k (xs ++ ys) ≡ (has k xs || has k ys) → (b || has k (xs ++ ys)) ≡ ((b || has k xs) || has k ys)
    by true h = refl
    by false h = h

-- a test that all of a list pass
pub all_by : (f : ℕ → Bool) (xs : List ℕ) → ((i : ℕ) → has i xs ≡ true → f i ≡ true) → list_all f xs ≡ true
all_by f [] h = refl
all_by f (x ∷ xs) h =
    let first : f x ≡ true = h x (or_left (x == x) (has x xs) (eq-eqb x x refl)) in
    rw first (all_by f xs (λ i e. h i (or_right (x == i) (has i xs) e)))

-- those that pass one test pass another, so does a certain one
pub all_at : (f g : ℕ → Bool) (k : ℕ) (xs : List ℕ) → list_all f (filter g xs) ≡ true → has k xs ≡ true → g k ≡ true → f k ≡ true
all_at f g k [] h e t = absurd (both_ways false refl e)
all_at f g k (x ∷ xs) h e t = by (x == k) refl e (λ l d. all_at f g k xs l d t)
  where
    tail : (b : Bool) → list_all f (cond b (x ∷ filter g xs) (filter g xs)) ≡ true → list_all f (filter g xs) ≡ true
    tail true h = (and_parts (f x) (list_all f (filter g xs)) h).1
    tail false h = h

    by : (b : Bool) → (x == k) ≡ b → (b || has k xs) ≡ true → (list_all f (filter g xs) ≡ true → has k xs ≡ true → f k ≡ true) → f k ≡ true
    by true q e more =
        let same : x ≡ k = eqb-true x k q in
        let passes : g x ≡ true = subst (λ i. g i ≡ true) (sym same) t in
        let first : list_all f (x ∷ filter g xs) ≡ true = rw passes at h in
        subst (λ i. f i ≡ true) same (and_parts (f x) (list_all f (filter g xs)) first).0
    by false q e more = more (tail (g x) h) e

-- what begins with all that pass, and what follows
pub run_yes : (f : ℕ → Bool) (x : ℕ) (xs : List ℕ) → f x ≡ true → take_while f (x ∷ xs) ≡ x ∷ take_while f xs
run_yes f x xs e = let one : 1 + prefix_len f xs ≡ suc (prefix_len f xs) = omega arith in rw e (rw one refl)

pub run_no : (f : ℕ → Bool) (x : ℕ) (xs : List ℕ) → f x ≡ false → take_while f (x ∷ xs) ≡ []
run_no f x xs e = rw e refl

abbrev pub FailsFirst : (ℕ → Bool) → List ℕ → Type 0
FailsFirst f [] = Unit {0}
FailsFirst f (x ∷ xs) = f x ≡ false

pub record Run (f : ℕ → Bool) (xs : List ℕ) : Type 0 where
  pub rest : List ℕ
  pub whole : xs ≡ take_while f xs ++ rest
  pub ends : FailsFirst f rest

pub run : (f : ℕ → Bool) (xs : List ℕ) → Run f xs
run f [] = record { rest = []; whole = refl; ends = tt }
run f (x ∷ xs) = by (f x) refl (run f xs)
  where
    by : (b : Bool) → f x ≡ b → Run f xs → Run f (x ∷ xs)
    by true e more = record {
      rest = more.rest;
      whole = ap (λ l. x ∷ l) more.whole ∙ sym (ap (λ l. l ++ more.rest) (run_yes f x xs e));
      ends = more.ends;
    }
    by false e more = record { rest = x ∷ xs; whole = sym (ap (λ l. l ++ x ∷ xs) (run_no f x xs e)); ends = e }
