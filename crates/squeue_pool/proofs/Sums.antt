-- Sums over the numbers below a bound, and over lists as columns of a table that is read in rows.
use Rattle.std.proofs.Common.{◌≡◌, ℕ, zero, suc, ◌+◌, ◌-◌, ◌*◌, ◌/◌, ◌%◌, ◌<◌, ◌≤◌, Bool, true, false, nat_le, Option, Some, None, List, [], ◌∷◌, length, refl, ap, sym, ◌∙◌, add-zero, arith}
use Rattle.std.specs.Prelude.{slice_get}
use Rattle.std.proofs.lemmas.Nat.{div-mul-add, mod-mul-add}
use Rattle.std.proofs.Math.Nat.{add-mod_right, add-mul-mod_self_right, le-mul_of_pos_right}
use Rattle.std.proofs.lemmas.Bool.Decides.{nat_tests}

-- f 0 + f 1 + .. + f (n - 1)
pub sum_below : ℕ → (ℕ → ℕ) → ℕ
sum_below zero f = 0
sum_below (suc n) f = sum_below n f + f n

pub below_suc : (n : ℕ) (f : ℕ → ℕ) → sum_below (suc n) f ≡ sum_below n f + f n
unfolding sum_below
below_suc n f = refl

pub below_none : (f : ℕ → ℕ) → sum_below zero f ≡ 0
unfolding sum_below
below_none f = refl

pub same_terms : (n : ℕ) (f g : ℕ → ℕ) → ((i : ℕ) → i < n → f i ≡ g i) → sum_below n f ≡ sum_below n g
unfolding sum_below
same_terms zero f g h = refl
same_terms (suc n) f g h = let front = same_terms n f g (λ i lt. h i (omega (arith, lt))) in let last = h n (omega arith) in omega (arith, front, last)

pub sum_two : (n : ℕ) (f g : ℕ → ℕ) → sum_below n (λ i. f i + g i) ≡ sum_below n f + sum_below n g
unfolding sum_below
sum_two zero f g = refl
sum_two (suc n) f g = omega (arith, sum_two n f g)

sum_zeros : (n : ℕ) → sum_below n (λ i. 0) ≡ 0
unfolding sum_below
sum_zeros zero = refl
sum_zeros (suc n) = omega (arith, sum_zeros n)

-- terms from n on that are 0 add nothing
pub further : (n d : ℕ) (f : ℕ → ℕ) → ((i : ℕ) → n ≤ i → f i ≡ 0) → sum_below (n + d) f ≡ sum_below n f
unfolding sum_below
further n zero f h = ap (λ (m : ℕ). sum_below m f) (add-zero n)
further n (suc d) f h =
    let e : n + suc d ≡ suc (n + d) = omega arith in
    let front = further n d f h in
    let last = h (n + d) (omega arith) in
    ap (λ (m : ℕ). sum_below m f) e ∙ omega (arith, front, last)

-- the first term apart
pub from_front : (n : ℕ) (f : ℕ → ℕ) → sum_below (suc n) f ≡ f 0 + sum_below n (λ i. f (suc i))
unfolding sum_below
from_front zero f = omega arith
from_front (suc n) f = let front = from_front n f in omega (arith, front)

-- the terms below a sum of two bounds
both_parts : (a b : ℕ) (f : ℕ → ℕ) → sum_below (a + b) f ≡ sum_below a f + sum_below b (λ i. f (a + i))
unfolding sum_below
both_parts a zero f = ap (λ (m : ℕ). sum_below m f) (add-zero a) ∙ omega arith
both_parts a (suc b) f =
    let e : a + suc b ≡ suc (a + b) = omega arith in
    let front = both_parts a b f in
    ap (λ (m : ℕ). sum_below m f) e ∙ omega (arith, front)

-- m rows of n terms
pub in_rows : (n m : ℕ) (f : ℕ → ℕ) → sum_below (m * n) f ≡ sum_below m (λ i. sum_below n (λ r. f (i * n + r)))
unfolding sum_below
in_rows n zero f = let e : 0 * n ≡ 0 = omega arith in ap (λ (k : ℕ). sum_below k f) e
in_rows n (suc m) f =
    let e : suc m * n ≡ m * n + n = omega arith in
    let front = in_rows n m f in
    ap (λ (k : ℕ). sum_below k f) e ∙ omega (arith, both_parts (m * n) n f, front)

-- rows and columns
pub swapped : (n m : ℕ) (f : ℕ → ℕ → ℕ) → sum_below m (λ i. sum_below n (λ q. f i q)) ≡ sum_below n (λ q. sum_below m (λ i. f i q))
unfolding sum_below
swapped n zero f = sym (sum_zeros n)
swapped n (suc m) f =
    let front = swapped n m f in
    omega (arith, front, sum_two n (λ q. sum_below m (λ i. f i q)) (λ q. f m q))

-- the residues of n numbers, from c on, are all numbers below n
pub turned : (n c : ℕ) (f : ℕ → ℕ) → sum_below n (λ r. f ((c + r) % n)) ≡ sum_below n f
turned n zero f =
    same_terms n (λ r. f ((0 + r) % n)) f
    (λ r lt. let e : (0 + r) % n ≡ r = ap (λ (k : ℕ). k % n) (let s : 0 + r ≡ 0 * n + r = omega arith in s) ∙ mod-mul-add 0 n r lt in ap f e)
turned n (suc c) f =
    let h : ℕ → ℕ = λ r. f ((c + r) % n) in
    let moved : sum_below n (λ r. f ((suc c + r) % n)) ≡ sum_below n (λ r. h (suc r)) =
    same_terms n (λ r. f ((suc c + r) % n)) (λ r. h (suc r)) (λ r lt. let e : suc c + r ≡ c + suc r = omega arith in ap (λ (k : ℕ). f (k % n)) e) in
    let round : h n ≡ h 0 = ap f (add-mod_right c n ∙ ap (λ (k : ℕ). k % n) (sym (add-zero c))) in
    let whole = turned n c f in
    let first = from_front n h in
    let last = below_suc n h in
    omega (arith, moved, round, whole, first, last)

-- the sum over a list
pub sum_over : {A : Type 0} → (A → ℕ) → List A → ℕ
sum_over f [] = 0
sum_over f (x ∷ xs) = f x + sum_over f xs

pub over_none : {A : Type 0} (f : A → ℕ) → sum_over f [] ≡ 0
unfolding sum_over
over_none f = refl

pub over_more : {A : Type 0} (f : A → ℕ) (x : A) (xs : List A) → sum_over f (x ∷ xs) ≡ f x + sum_over f xs
unfolding sum_over
over_more f x xs = refl

-- of a place where there may be nothing
abbrev pub if_there : {A : Type 0} → (A → ℕ) → Option A → ℕ
if_there f None = 0
if_there f (Some x) = f x

-- a list's sum is that of its first places, as many as it has or more
pub by_places : {A : Type 0} (f : A → ℕ) (m : ℕ) (xs : List A) → length xs ≤ m → sum_below m (λ i. if_there f (slice_get xs i)) ≡ sum_over f xs
unfolding sum_below sum_over
by_places f m [] le = same_terms m (λ i. if_there f (slice_get [] i)) (λ i. 0) (λ i lt. refl) ∙ sum_zeros m
by_places f zero (x ∷ xs) le = absurd (omega (arith, le))
by_places f (suc m) (x ∷ xs) le =
    let rest = by_places f m xs (omega (arith, le)) in
    from_front m (λ i. if_there f (slice_get (x ∷ xs) i)) ∙ ap (λ (k : ℕ). f x + k) rest

-- no list is longer than all together
within_all : (n : ℕ) (f : ℕ → ℕ) (q : ℕ) → q < n → f q ≤ sum_below n f
unfolding sum_below
within_all zero f q lt = absurd (omega (arith, lt))
within_all (suc n) f q lt = by (nat_le n q) refl (λ less. within_all n f q less)
  where
    by : (b : Bool) → nat_le n q ≡ b → (q < n → f q ≤ sum_below n f) → f q ≤ sum_below n f + f n
    by true e front = let same : q ≡ n = grind (arith, nat_tests) in rw same (omega arith)
    by false e front = let less : q < n = grind (arith, nat_tests) in let le = front less in omega (arith, le)

-- A table has n columns. Read in rows, from column c on and round about, it has the places of all columns
module _ {A : Type 0} (f : A → ℕ) (n c : ℕ) (column : ℕ → List A) where
  abbrev pub place : ℕ → Option A
  place s = slice_get (column ((c + s) % n)) (s / n)

  in_row : (i r : ℕ) → r < n → place (i * n + r) ≡ slice_get (column ((c + r) % n)) i
  in_row i r lt =
      let sum : c + (i * n + r) ≡ c + r + i * n = omega arith in
      let there : (c + (i * n + r)) % n ≡ (c + r) % n = ap (λ (k : ℕ). k % n) sum ∙ add-mul-mod_self_right (c + r) i n in
      let row : (i * n + r) / n ≡ i = div-mul-add i n r lt in
      ap (λ (q : ℕ). slice_get (column q) ((i * n + r) / n)) there ∙ ap (λ (k : ℕ). slice_get (column ((c + r) % n)) k) row

  pub all_places : (m : ℕ) → ((q : ℕ) → q < n → length (column q) ≤ m)
      → sum_below (m * n) (λ s. if_there f (place s)) ≡ sum_below n (λ q. sum_over f (column q))
  all_places m short =
      in_rows n m (λ s. if_there f (place s))
      ∙ (same_terms m (λ i. sum_below n (λ r. if_there f (place (i * n + r)))) (λ i. sum_below n (λ q. if_there f (slice_get (column q) i)))
      (λ i lt.
      same_terms n (λ r. if_there f (place (i * n + r))) (λ r. if_there f (slice_get (column ((c + r) % n)) i))
      (λ r below. ap (λ (o : Option A). if_there f o) (in_row i r below))
      ∙ turned n c (λ q. if_there f (slice_get (column q) i)))
      ∙ (swapped n m (λ i q. if_there f (slice_get (column q) i))
      ∙ same_terms n (λ q. sum_below m (λ i. if_there f (slice_get (column q) i))) (λ q. sum_over f (column q))
      (λ q below. by_places f m (column q) (short q below))))

  -- where no place from count on has anything
  pub over_all : 0 < n → (count : ℕ) → ((s : ℕ) → count ≤ s → place s ≡ None)
      → sum_below count (λ s. if_there f (place s)) ≡ sum_below n (λ q. sum_over f (column q))
  over_all some count none =
      let m : ℕ = count + sum_below n (λ q. length (column q)) in
      let long : count ≤ m * n = let wide = le-mul_of_pos_right m some in omega (arith, wide) in
      let e : count + (m * n - count) ≡ m * n = omega (arith, long) in
      sym (further count (m * n - count) (λ s. if_there f (place s)) (λ s le. ap (λ (o : Option A). if_there f o) (none s le)))
      ∙ (ap (λ (k : ℕ). sum_below k (λ s. if_there f (place s))) e
      ∙ all_places m (λ q below. let le = within_all n (λ p. length (column p)) q below in omega (arith, le)))
