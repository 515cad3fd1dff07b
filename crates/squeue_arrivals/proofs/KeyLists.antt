-- Items by key, and keys by number.
use Rattle.std.proofs.Common.{◌≡◌, ◌≢◌, ℕ, zero, suc, ◌+◌, ◌<◌, ◌≤◌, ◌==◌, Bool, true, false, None, Some, List, [], ◌∷◌, ◌++◌, length, map, slice_get, refl, ap, sym, ◌∙◌, subst, arith, append-nil}
use Rattle.std.specs.Prelude.{Contains, cond, filter, if◌then◌else◌, nat_eq, nat_lt, not, position}
use Rattle.std.specs.List.{IsDistinct, AllByRecursion, list_any, position_or_len}
use Rattle.std.specs.Cmp.{nat_eq_equiv}
use Rattle.std.proofs.lemmas.Map.Views.{list_any-from_Contains}
use Rattle.indexmap.specs.IndexSet.{insert_key}
use Rattle.indexmap.proofs.CallerLemmas.{Contains-list_any}
use Rattle.std.proofs.lemmas.Bool.{eqb-true, eq-eqb, ltb-true}
use Rattle.std.proofs.lemmas.List.{map-append}
use Rattle.std.proofs.lemmas.List.Elements.{filter-append}
use Rattle.squeue_arrivals.specs.Arriving.{items_for}

module _ {T : Type 0} where
  more : (k : ℕ) (e : ℕ × T) (all : List (ℕ × T)) → items_for k (all ++ e ∷ []) ≡ items_for k all ++ items_for k (e ∷ [])
  more k e all =
      ap (map (λ (e : ℕ × T). e.1)) (filter-append (λ (e : ℕ × T). e.0 == k) all (e ∷ []))
      ∙ map-append (λ (e : ℕ × T). e.1) (filter (λ (e : ℕ × T). e.0 == k) all) (filter (λ (e : ℕ × T). e.0 == k) (e ∷ []))

  one_item : (k j : ℕ) (x : T) (b : Bool) → (j == k) ≡ b → items_for k ((j, x) ∷ []) ≡ (if b then x ∷ [] else [])
  one_item k j x true is = rw is refl
  one_item k j x false is = rw is refl

  -- an item more of the key, and one of another key
  pub items_more : (k : ℕ) (x : T) (all : List (ℕ × T)) → items_for k (all ++ (k, x) ∷ []) ≡ items_for k all ++ x ∷ []
  items_more k x all = more k (k, x) all ∙ ap (λ (l : List T). items_for k all ++ l) (one_item k k x true (eq-eqb k k refl))

  pub items_other : (k j : ℕ) (x : T) (all : List (ℕ × T)) → j ≢ k → items_for k (all ++ (j, x) ∷ []) ≡ items_for k all
  items_other k j x all other = more k (j, x) all ∙ (ap (λ (l : List T). items_for k all ++ l) (one_item k j x false (no (j == k) refl)) ∙ append-nil (items_for k all))
    where
      no : (b : Bool) → (j == k) ≡ b → b ≡ false
      no true is = absurd (other (eqb-true j k is))
      no false is = refl

  -- a key has no more items than there are
  pub few_items : (k : ℕ) (all : List (ℕ × T)) → length (items_for k all) ≤ length all
  few_items k [] = omega arith
  few_items k (e ∷ all) = by (few_items k all) (e.0 == k) refl
    where
      by : length (items_for k all) ≤ length all → (b : Bool) → (e.0 == k) ≡ b → length (items_for k (e ∷ all)) ≤ length (e ∷ all)
      by le true is = rw is (omega (arith, le))
      by le false is = rw is (omega (arith, le))

-- a test finds no key but those that are there
pub any_false : (ks : List ℕ) (k : ℕ) → (Contains ks k → ⊥) → list_any (nat_eq k) ks ≡ false
any_false ks k none = go (list_any (nat_eq k) ks) refl
  where
    go : (b : Bool) → list_any (nat_eq k) ks ≡ b → b ≡ false
    go true is = absurd (none (Contains-list_any nat_eq (λ x y e. eqb-true x y e) ks k is))
    go false is = refl

pub key_added : (ks new : List ℕ) (k : ℕ) → (Contains ks k → ⊥) → new ≡ insert_key nat_eq ks k → new ≡ ks ++ k ∷ []
key_added ks new k none is = is ∙ ap (λ (b : Bool). if b then ks else ks ++ k ∷ []) (any_false ks k none)

-- the place at which a test finds a key, and that it finds none
length_found : (ks : List ℕ) (k : ℕ) → position_or_len (nat_eq k) ks < length ks → slice_get ks (position_or_len (nat_eq k) ks) ≡ Some k
length_found [] k lt = absurd (omega (arith, lt))
length_found (x ∷ ks) k lt = go (λ less. length_found ks k less) (nat_eq k x) refl
  where
    go : (position_or_len (nat_eq k) ks < length ks → slice_get ks (position_or_len (nat_eq k) ks) ≡ Some k) → (b : Bool) → nat_eq k x ≡ b → slice_get (x ∷ ks) (position_or_len (nat_eq k) (x ∷ ks)) ≡ Some k
    go next true is = rw is (ap (λ (n : ℕ). Some n) (sym (eqb-true k x is)))
    go next false is =
        let one : cond (not false) (1 + position_or_len (nat_eq k) ks) 0 ≡ suc (position_or_len (nat_eq k) ks) = omega arith in
        let at : position_or_len (nat_eq k) (x ∷ ks) ≡ suc (position_or_len (nat_eq k) ks) = rw is one in
        let less : position_or_len (nat_eq k) ks < length ks = omega (arith, at, lt) in
        subst (λ (n : ℕ). slice_get (x ∷ ks) n ≡ Some k) (sym at) (next less)

pub found_at : (ks : List ℕ) (k i : ℕ) → position (nat_eq k) ks ≡ Some i → (i < length ks) × (slice_get ks i ≡ Some k)
found_at ks k i is = go (nat_lt (position_or_len (nat_eq k) ks) (length ks)) refl is
  where
    go : (b : Bool) → nat_lt (position_or_len (nat_eq k) ks) (length ks) ≡ b → cond b (Some (position_or_len (nat_eq k) ks)) None ≡ Some i → (i < length ks) × (slice_get ks i ≡ Some k)
    go true lt at =
        let here : position_or_len (nat_eq k) ks ≡ i = cc at in
        let less : position_or_len (nat_eq k) ks < length ks = ltb-true (position_or_len (nat_eq k) ks) (length ks) lt in
        (omega (arith, here, less), subst (λ (n : ℕ). slice_get ks n ≡ Some k) here (length_found ks k less))
    go false lt at = cc at

pub not_there : (ks : List ℕ) (k : ℕ) → list_any (nat_eq k) ks ≡ false → Contains ks k → ⊥
not_there ks k none there = let some = list_any-from_Contains nat_eq_equiv k ks there in cc (sym none ∙ some)

-- no two numbers have one key
pub one_number : (ks : List ℕ) (i j k : ℕ) → IsDistinct nat_eq ks → slice_get ks i ≡ Some k → slice_get ks j ≡ Some k → i ≡ j
unfolding IsDistinct
one_number ks i j k = go ks i j
  where
    apart : (x n : ℕ) (ks : List ℕ) → AllByRecursion (λ y. nat_eq x y ≡ false) ks → slice_get ks n ≡ Some x → ⊥
    apart x n [] all at = cc at
    apart x zero (y ∷ ks) all at = let same : y ≡ x = cc at in let no : nat_eq x y ≡ false = all.0 in cc (sym no ∙ eq-eqb x y (sym same))
    apart x (suc n) (y ∷ ks) all at = apart x n ks all.1 at

    go : (ks : List ℕ) (i j : ℕ) → IsDistinct nat_eq ks → slice_get ks i ≡ Some k → slice_get ks j ≡ Some k → i ≡ j
    go [] i j is a b = cc a
    go (x ∷ ks) zero zero is a b = refl
    go (x ∷ ks) zero (suc j) is a b = let same : x ≡ k = cc a in absurd (apart x j ks is.0 (rw same b))
    go (x ∷ ks) (suc i) zero is a b = let same : x ≡ k = cc b in absurd (apart x i ks is.0 (rw same a))
    go (x ∷ ks) (suc i) (suc j) is a b = ap suc (go ks i j is.1 a b)
