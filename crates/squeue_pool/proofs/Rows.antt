-- Rows of items by key: what a read finds, and how long rows are.
use Rattle.std.proofs.Common.{◌≡◌, ℕ, zero, suc, ◌<◌, ◌≤◌, ◌^◌, List, [], ◌∷◌, length, map, sum, get_or, slice_index, slice_index_or, refl, ap, sym, ◌∙◌, subst, arith}
use Rattle.std.specs.Prelude.{All}
use Rattle.std.proofs.lemmas.List.{get_or-map, get_or_read, length-map}
use Rattle.std.proofs.lemmas.List.Elements.{All-nil, All-cons}
use Rattle.std.proofs.lemmas.List.Sums.{sum_by-cons}

-- no row is longer than all are together
pub all_short : {A : Type 0} (f : A → ℕ) (xs : List A) → sum (map f xs) ≤ 2 ^ 30 → All (λ x. f x < 2 ^ 32) xs
all_short f [] h = All-nil (λ x. f x < 2 ^ 32)
all_short f (x ∷ xs) h =
    let both = sum_by-cons (λ (n : ℕ). n) (f x) (map f xs) in
    All-cons (λ x. f x < 2 ^ 32) x xs (omega (arith, both, h)) (all_short f xs (omega (arith, both, h)))

-- no number of a list is greater than their sum
pub index_few : (xs : List ℕ) (c : ℕ) → slice_index xs c ≤ sum xs
index_few [] c = omega arith
index_few (x ∷ xs) zero = let both = sum_by-cons (λ (n : ℕ). n) x xs in omega (arith, both)
index_few (x ∷ xs) (suc c) = let both = sum_by-cons (λ (n : ℕ). n) x xs in let le = index_few xs c in omega (arith, both, le)

pub lengths_of : {V : Type 0} (items : V → List ℕ) (xs : List V) → map length (map items xs) ≡ map (λ x. length (items x)) xs
lengths_of items [] = refl
lengths_of items (x ∷ xs) = ap (λ ns. length (items x) ∷ ns) (lengths_of items xs)

pub limit_is : (rows : List (List ℕ)) (c : ℕ) → slice_index (map length rows) c ≡ length (slice_index_or rows c [])
limit_is [] c = refl
limit_is (x ∷ rows) zero = refl
limit_is (x ∷ rows) (suc c) = limit_is rows c

-- item n of row c, which the limits allow
module _ {V : Type 0} (items : V → List ℕ) (rows : List V) (c n : ℕ) where
  pub row_within : n < slice_index (map length (map items rows)) c → n < length (slice_index_or (map items rows) c [])
  row_within limit = subst (λ (k : ℕ). n < k) (limit_is (map items rows) c) limit

  pub row_read : (row d : V) → c < length (map length (map items rows)) → row ≡ get_or rows c d → items row ≡ slice_index_or (map items rows) c []
  row_read row d range is =
      let lt : c < length rows = omega (arith, range, length-map (map items rows) length, length-map rows items) in
      ap items is ∙ sym (get_or-map items rows c d [] lt)

  pub value_read : (row : V) (value : ℕ) → c < length (map length (map items rows)) → n < length (slice_index_or (map items rows) c []) → row ≡ get_or rows c row → value ≡ get_or (items row) n value
      → value ≡ get_or (slice_index_or (map items rows) c []) n 0
  value_read row value range within is read =
      get_or_read (slice_index_or (map items rows) c []) n value within (read ∙ ap (λ (xs : List ℕ). get_or xs n value) (row_read row row range is)) 0
