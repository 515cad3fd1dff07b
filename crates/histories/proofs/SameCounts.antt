-- Lists in which each number stands equally often are permutations of each other.
use Rattle.std.proofs.Common.{◌≡◌, ℕ, ◌+◌, ◌<◌, ◌==◌, Bool, true, false, if◌then◌else◌, List, [], ◌∷◌, ◌++◌, refl, ap, ◌∙◌, arith, eq-eqb}
use Rattle.std.specs.Prelude.{IsPermutation}
use Rattle.std.proofs.lemmas.Bool.Decides.{nat_tests}
use Rattle.std.proofs.lemmas.List.Sorted.{IsPermutation-refl, IsPermutation-sym, IsPermutation-trans, IsPermutation-cons, IsPermutation-middle}

-- one where a test holds, else nothing
abbrev pub once_if : Bool → ℕ
once_if b = if b then 1 else 0

-- how often k stands in a list
abbrev pub count : ℕ → List ℕ → ℕ
count k [] = 0
count k (x ∷ xs) = once_if (x == k) + count k xs

count_both : (k : ℕ) (xs ys : List ℕ) → count k (xs ++ ys) ≡ count k xs + count k ys
count_both k [] ys = omega arith
count_both k (x ∷ xs) ys = omega (arith, count_both k xs ys)

record Parted (x : ℕ) (ys : List ℕ) : Type 0 where
  front : List ℕ
  back : List ℕ
  is : ys ≡ front ++ x ∷ back

find : (x : ℕ) (ys : List ℕ) → 0 < count x ys → Parted x ys
find x [] lt = absurd (omega (arith, lt))
find x (y ∷ ys) lt = by (y == x) refl lt (λ h. find x ys h)
  where
    by : (b : Bool) → (y == x) ≡ b → 0 < once_if b + count x ys → (0 < count x ys → Parted x ys) → Parted x (y ∷ ys)
    by true e lt rest = let same : y ≡ x = grind (arith, nat_tests) in record { front = []; back = ys; is = ap (λ (z : ℕ). z ∷ ys) same }
    by false e lt rest = let p = rest (omega (arith, lt)) in record { front = y ∷ p.front; back = p.back; is = ap (λ (l : List ℕ). y ∷ l) p.is }

stands : (x : ℕ) (xs : List ℕ) → 0 < count x (x ∷ xs)
stands x xs = let e : once_if (x == x) ≡ 1 = ap once_if (eq-eqb x x refl) in omega (arith, e)

pub permuted : (xs ys : List ℕ) → ((k : ℕ) → count k xs ≡ count k ys) → IsPermutation xs ys
permuted [] [] h = IsPermutation-refl []
permuted [] (y ∷ ys) h = let none = h y in let one = stands y ys in absurd (omega (arith, none, one))
permuted (x ∷ xs) ys h =
    let p = find x ys (let all = h x in let one = stands x xs in omega (arith, all, one)) in
    let rest = permuted xs (p.front ++ p.back) (λ k.
    let all = h k in
    let parts = ap (count k) p.is ∙ count_both k p.front (x ∷ p.back) in
    let others = count_both k p.front p.back in
    omega (arith, all, parts, others)) in
    let moved : IsPermutation (x ∷ xs) (p.front ++ x ∷ p.back) = IsPermutation-trans (x ∷ xs) (x ∷ (p.front ++ p.back)) (p.front ++ x ∷ p.back)
    (IsPermutation-cons x xs (p.front ++ p.back) rest)
    (IsPermutation-sym (p.front ++ x ∷ p.back) (x ∷ (p.front ++ p.back)) (IsPermutation-middle p.front x p.back)) in
    rw p.is moved
