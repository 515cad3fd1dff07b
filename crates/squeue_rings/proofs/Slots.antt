-- Places of a list, read and written.
use Rattle.std.proofs.Common.{◌≡◌, ◌≢◌, ℕ, zero, suc, ◌+◌, ◌-◌, ◌<◌, ◌≤◌, ◌==◌, ◌++◌, Bool, true, Option, Some, List, [], ◌∷◌, length, drop, take, slice_get, slice_index_or, slice_set, refl, ap, sym, ◌∙◌, subst, arith}
use Rattle.std.proofs.lemmas.Bool.{eqb-true}
use Rattle.squeue_state.specs.Naming.{Named}
use Rattle.squeue_serve.specs.Places.{AtEach}

pub got_other : {A : Type 0} (xs : List A) (i k : ℕ) (x : A) → k ≢ i → slice_get (slice_set xs i x) k ≡ slice_get xs k
got_other [] i k x apart = refl
got_other (y ∷ xs) zero zero x apart = absurd (apart refl)
got_other (y ∷ xs) zero (suc k) x apart = refl
got_other (y ∷ xs) (suc i) zero x apart = refl
got_other (y ∷ xs) (suc i) (suc k) x apart = got_other xs i k x (λ e. apart (ap suc e))

pub got_at : {A : Type 0} (xs : List A) (i : ℕ) (x : A) → i < length xs → x ≡ slice_index_or xs i x → slice_get xs i ≡ Some x
got_at [] i x lt is = absurd (omega (arith, lt))
got_at (y ∷ xs) zero x lt is = ap Some (sym is)
got_at (y ∷ xs) (suc i) x lt is = got_at xs i x (omega (arith, lt)) is

pub within : {A : Type 0} (xs : List A) (i : ℕ) (x : A) → slice_get xs i ≡ Some x → i < length xs
within [] i x is = cc is
within (y ∷ xs) zero x is = omega arith
within (y ∷ xs) (suc i) x is = let r = within xs i x is in omega (arith, r)

module _ {R A : Type 0} where
  pub at_got : (P : Named R → A → Type 0) (ss : List (Named R)) (os : List A) (k : ℕ) (s : Named R) (o : A) → AtEach P ss os → slice_get ss k ≡ Some s → slice_get os k ≡ Some o → P s o
  at_got P [] os k s o h is it = cc is
  at_got P (t ∷ ss) [] k s o h is it = absurd h
  at_got P (t ∷ ss) (x ∷ os) zero s o h is it = let a : t ≡ s = cc is in let b : x ≡ o = cc it in subst (λ (s : Named R). P s o) a (subst (P t) b h.0)
  at_got P (t ∷ ss) (x ∷ os) (suc k) s o h is it = at_got P ss os k s o h.1 is it

  pub at_made : (P : Named R → A → Type 0) (ss : List (Named R)) (os : List A) → length os ≡ length ss → ((k : ℕ) (s : Named R) (o : A) → slice_get ss k ≡ Some s → slice_get os k ≡ Some o → P s o) → AtEach P ss os
  at_made P [] [] n h = tt
  at_made P [] (o ∷ os) n h = absurd (omega (arith, n))
  at_made P (s ∷ ss) [] n h = absurd (omega (arith, n))
  at_made P (s ∷ ss) (o ∷ os) n h = (h 0 s o refl refl, at_made P ss os (omega (arith, n)) (λ k t x is it. h (suc k) t x is it))

  pub at_length : (P : Named R → A → Type 0) (ss : List (Named R)) (os : List A) → AtEach P ss os → length os ≡ length ss
  at_length P [] [] h = refl
  at_length P [] (o ∷ os) h = absurd h
  at_length P (s ∷ ss) [] h = absurd h
  at_length P (s ∷ ss) (o ∷ os) h = ap suc (at_length P ss os h.1)

pub one_pass : {A : Type 0} (os : List (Option A)) (k : ℕ) (x y : A) → slice_get os k ≡ Some (Some x) → slice_get os k ≡ Some (Some y) → x ≡ y
one_pass os k x y a b = let e : Some (Some x) ≡ Some (Some y) = sym a ∙ b in cc e

-- the first of a list, and what a slice has of the others
pub head_rest : {A : Type 0} (xs : List A) (d : A) → 0 < length xs → xs ≡ slice_index_or xs 0 d ∷ take (length xs - 1) (drop 1 xs)
head_rest [] d lt = absurd (omega (arith, lt))
head_rest (x ∷ xs) d lt = ap (λ l. x ∷ l) (sym (all (suc (length xs) - 1) xs (omega arith)))
  where
    all : {A : Type 0} (n : ℕ) (xs : List A) → n ≡ length xs → take n xs ≡ xs
    all zero [] e = refl
    all zero (x ∷ xs) e = absurd (omega (arith, e))
    all (suc n) [] e = absurd (omega (arith, e))
    all (suc n) (x ∷ xs) e = ap (λ l. x ∷ l) (all n xs (omega (arith, e)))

pub rest_is : {A : Type 0} (n : ℕ) (xs : List A) → n ≤ length xs → xs ≡ take n xs ++ take (length xs - n) (drop n xs)
rest_is n xs le = split n xs ∙ ap (λ l. take n xs ++ l) (sym (all (length xs - n) (drop n xs) (size n xs le)))
  where
    split : {A : Type 0} (n : ℕ) (xs : List A) → xs ≡ take n xs ++ drop n xs
    split zero xs = refl
    split (suc n) [] = refl
    split (suc n) (x ∷ xs) = ap (λ l. x ∷ l) (split n xs)

    all : {A : Type 0} (n : ℕ) (xs : List A) → n ≡ length xs → take n xs ≡ xs
    all zero [] e = refl
    all zero (x ∷ xs) e = absurd (omega (arith, e))
    all (suc n) [] e = absurd (omega (arith, e))
    all (suc n) (x ∷ xs) e = ap (λ l. x ∷ l) (all n xs (omega (arith, e)))

    size : {A : Type 0} (n : ℕ) (xs : List A) → n ≤ length xs → length xs - n ≡ length (drop n xs)
    size zero xs le = omega arith
    size (suc n) [] le = absurd (omega (arith, le))
    size (suc n) (x ∷ xs) le = let r = size n xs (omega (arith, le)) in omega (arith, r)

pub none_left : {A : Type 0} (xs : List A) (b : Bool) → b ≡ (length xs == 0) → b ≡ true → xs ≡ []
none_left [] b is t = refl
none_left (x ∷ xs) b is t = let e : (suc (length xs) == 0) ≡ true = sym is ∙ t in let z : suc (length xs) ≡ 0 = eqb-true (suc (length xs)) 0 e in absurd (omega (arith, z))

pub parted : {A : Type 0} (n : ℕ) (xs a b : List A) → a ≡ take n xs → b ≡ drop n xs → xs ≡ a ++ b
parted n xs a b i j = go n xs ∙ (ap (λ l. l ++ drop n xs) (sym i) ∙ ap (λ l. a ++ l) (sym j))
  where
    go : {A : Type 0} (n : ℕ) (xs : List A) → xs ≡ take n xs ++ drop n xs
    go zero xs = refl
    go (suc n) [] = refl
    go (suc n) (x ∷ xs) = ap (λ l. x ∷ l) (go n xs)

-- a first part, and the next k behind it
pub take_next : {A : Type 0} (n k : ℕ) (xs : List A) → take n xs ++ take k (drop n xs) ≡ take (n + k) xs
take_next zero k xs = let e : 0 + k ≡ k = omega arith in ap (λ (m : ℕ). take m xs) (sym e)
take_next (suc n) zero [] = let e : suc n + 0 ≡ suc n = omega arith in rw e refl
take_next (suc n) (suc k) [] = let e : suc n + suc k ≡ suc (n + suc k) = omega arith in rw e refl
take_next (suc n) k (x ∷ xs) = let e : suc n + k ≡ suc (n + k) = omega arith in ap (λ l. x ∷ l) (take_next n k xs) ∙ ap (λ (m : ℕ). take m (x ∷ xs)) (sym e)

pub three_parts : {A : Type 0} (n k : ℕ) (xs : List A) → xs ≡ take n xs ++ (take k (drop n xs) ++ drop k (drop n xs))
three_parts n k xs = go n xs ∙ ap (λ l. take n xs ++ l) (go k (drop n xs))
  where
    go : {A : Type 0} (n : ℕ) (xs : List A) → xs ≡ take n xs ++ drop n xs
    go zero xs = refl
    go (suc n) [] = refl
    go (suc n) (x ∷ xs) = ap (λ l. x ∷ l) (go n xs)

pub all_taken : {A : Type 0} (n : ℕ) (xs : List A) → n ≡ length xs → take n xs ≡ xs
all_taken zero [] e = refl
all_taken zero (x ∷ xs) e = absurd (omega (arith, e))
all_taken (suc n) [] e = absurd (omega (arith, e))
all_taken (suc n) (x ∷ xs) e = ap (λ l. x ∷ l) (all_taken n xs (omega (arith, e)))

-- a part of a list by its ends is the next k behind the first n
pub part_is : {A : Type 0} (xs : List A) (from n k : ℕ) → from ≡ n → take (from + k - from) (drop from xs) ≡ take k (drop n xs)
part_is xs from n k e = let c : from + k - from ≡ k = omega arith in ap (λ (m : ℕ). take m (drop from xs)) c ∙ ap (λ (m : ℕ). take k (drop m xs)) e
