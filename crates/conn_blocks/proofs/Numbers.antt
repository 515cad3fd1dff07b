-- The numbers of a thread's calls on a connection, along the thread's calls.
use Rattle.std.proofs.Common.{◌≡◌, ℕ, ◌+◌, ◌==◌, ◌<◌, zero, suc, Bool, true, false, List, [], ◌∷◌, ◌++◌, length, take, drop, slice_get, Some, IfSome, refl, ap, subst, ◌∙◌, arith, eq-eqb}
use Rattle.std.specs.Prelude.{if◌then◌else◌}
use Rattle.std.proofs.lemmas.Bool.{ne_eqb, or_left, or_right}
use Rattle.std.proofs.lemmas.List.{append-nil, length-take}
use Rattle.tcb_machine.specs.declared.kinds.Call.{Call}
use Rattle.conn_blocks.specs.Orders.{numbers_from}
use Rattle.conn_blocks.proofs.Rising.{has}

pub numbers_push : (c n : ℕ) (xs : List (ℕ × Call)) (x : ℕ × Call) → numbers_from n c (xs ++ x ∷ []) ≡ numbers_from n c xs ++ (if x.0 == c then (n + length xs) ∷ [] else [])
numbers_push c n [] x = by (x.0 == c)
  where
    by : (b : Bool) → (if b then n ∷ [] else []) ≡ (if b then (n + 0) ∷ [] else [])
    by true = let e : n ≡ n + 0 = omega arith in ap (λ m. m ∷ []) e
    by false = refl
numbers_push c n (y ∷ xs) x =
    by (y.0 == c)
    (numbers_push c (suc n) xs x ∙ ap (λ m. numbers_from (suc n) c xs ++ (if x.0 == c then m ∷ [] else [])) (let e : suc n + length xs ≡ n + suc (length xs) = omega arith in e))
  where
    by : (b : Bool) → numbers_from (suc n) c (xs ++ x ∷ []) ≡ numbers_from (suc n) c xs ++ (if x.0 == c then (n + suc (length xs)) ∷ [] else [])
        → (if b then n ∷ numbers_from (suc n) c (xs ++ x ∷ []) else numbers_from (suc n) c (xs ++ x ∷ []))
        ≡ (if b then n ∷ numbers_from (suc n) c xs else numbers_from (suc n) c xs) ++ (if x.0 == c then (n + suc (length xs)) ∷ [] else [])
    by true h = ap (λ l. n ∷ l) h
    by false h = h

pub take_some : {X : Type 0} (xs : List X) (k : ℕ) (x : X) → slice_get xs k ≡ Some x → take (suc k) xs ≡ take k xs ++ x ∷ []
take_some [] zero x e = absurd cc
take_some [] (suc k) x e = absurd cc
take_some (y ∷ xs) zero x e = let same : y ≡ x = cc in ap (λ z. z ∷ []) same
take_some (y ∷ xs) (suc k) x e = ap (λ l. y ∷ l) (take_some xs k x e)

pub drop_some : {X : Type 0} (xs : List X) (k : ℕ) (x : X) → slice_get xs k ≡ Some x → drop k xs ≡ x ∷ drop (suc k) xs
drop_some [] zero x e = absurd cc
drop_some [] (suc k) x e = absurd cc
drop_some (y ∷ xs) zero x e = let same : y ≡ x = cc in ap (λ z. z ∷ xs) same
drop_some (y ∷ xs) (suc k) x e = drop_some xs k x e

-- one more call at the end
module _ (c k : ℕ) (xs : List (ℕ × Call)) (x : ℕ × Call) (lt : k < length xs) (here : slice_get xs k ≡ Some x) where
  taken : numbers_from 0 c (take (k + 1) xs) ≡ numbers_from 0 c (take k xs) ++ (if x.0 == c then k ∷ [] else [])
  taken =
      let next : k + 1 ≡ suc k = omega arith in
      let place : 0 + length (take k xs) ≡ k = omega (arith, length-take k xs, lt) in
      ap (λ n. numbers_from 0 c (take n xs)) next ∙ ap (numbers_from 0 c) (take_some xs k x here) ∙ numbers_push c 0 (take k xs) x
      ∙ ap (λ m. numbers_from 0 c (take k xs) ++ (if x.0 == c then m ∷ [] else [])) place

  pub taken_one : x.0 ≡ c → numbers_from 0 c (take (k + 1) xs) ≡ numbers_from 0 c (take k xs) ++ k ∷ []
  taken_one e = taken ∙ ap (λ b. numbers_from 0 c (take k xs) ++ (if b then k ∷ [] else [])) (eq-eqb x.0 c e)

  pub taken_none : (x.0 ≡ c → ⊥) → numbers_from 0 c (take (k + 1) xs) ≡ numbers_from 0 c (take k xs)
  taken_none e = taken ∙ ap (λ b. numbers_from 0 c (take k xs) ++ (if b then k ∷ [] else [])) (ne_eqb x.0 c e) ∙ append-nil (numbers_from 0 c (take k xs))

  -- the first of those that are left
  pub left_one : x.0 ≡ c → numbers_from k c (drop k xs) ≡ k ∷ numbers_from (k + 1) c (drop (k + 1) xs)
  left_one e =
      let next : suc k ≡ k + 1 = omega arith in
      ap (numbers_from k c) (drop_some xs k x here) ∙ ap (λ b. if b then k ∷ numbers_from (suc k) c (drop (suc k) xs) else numbers_from (suc k) c (drop (suc k) xs)) (eq-eqb x.0 c e)
      ∙ ap (λ n. k ∷ numbers_from n c (drop n xs)) next

  pub left_none : (x.0 ≡ c → ⊥) → numbers_from k c (drop k xs) ≡ numbers_from (k + 1) c (drop (k + 1) xs)
  left_none e =
      let next : suc k ≡ k + 1 = omega arith in
      ap (numbers_from k c) (drop_some xs k x here) ∙ ap (λ b. if b then k ∷ numbers_from (suc k) c (drop (suc k) xs) else numbers_from (suc k) c (drop (suc k) xs)) (ne_eqb x.0 c e)
      ∙ ap (λ n. numbers_from n c (drop n xs)) next

-- all of them are those before number k, and those from there on
pub split_at : (c n k : ℕ) (xs : List (ℕ × Call)) → numbers_from n c xs ≡ numbers_from n c (take k xs) ++ numbers_from (n + k) c (drop k xs)
split_at c n zero xs = let e : n ≡ n + 0 = omega arith in ap (λ m. numbers_from m c xs) e
split_at c n (suc k) [] = refl
split_at c n (suc k) (x ∷ xs) = by (x.0 == c) (split_at c (suc n) k xs ∙ ap (λ m. numbers_from (suc n) c (take k xs) ++ numbers_from m c (drop k xs)) (let e : suc n + k ≡ n + suc k = omega arith in e))
  where
    by : (b : Bool) → numbers_from (suc n) c xs ≡ numbers_from (suc n) c (take k xs) ++ numbers_from (n + suc k) c (drop k xs)
        → (if b then n ∷ numbers_from (suc n) c xs else numbers_from (suc n) c xs)
        ≡ (if b then n ∷ numbers_from (suc n) c (take k xs) else numbers_from (suc n) c (take k xs)) ++ numbers_from (n + suc k) c (drop k xs)
    by true h = ap (λ l. n ∷ l) h
    by false h = h

-- a call on the connection is among them
pub is_among : (c n k : ℕ) (xs : List (ℕ × Call)) → IfSome (slice_get xs k) (λ x. x.0 ≡ c) → k < length xs → has (n + k) (numbers_from n c xs) ≡ true
is_among c n k [] h lt = absurd (let no : ⊥ = omega (arith, lt) in no)
is_among c n zero (x ∷ xs) h lt =
    let e : n ≡ n + 0 = omega arith in
    ap (λ b. has (n + 0) (if b then n ∷ numbers_from (suc n) c xs else numbers_from (suc n) c xs)) (eq-eqb x.0 c h)
    ∙ or_left (n == (n + 0)) (has (n + 0) (numbers_from (suc n) c xs)) (eq-eqb n (n + 0) e)
is_among c n (suc k) (x ∷ xs) h lt =
    by (x.0 == c) (let less : k < length xs = omega (arith, lt) in let e : suc n + k ≡ n + suc k = omega arith in subst (λ m. has m (numbers_from (suc n) c xs) ≡ true) e (is_among c (suc n) k xs h less))
  where
    by : (b : Bool) → has (n + suc k) (numbers_from (suc n) c xs) ≡ true → has (n + suc k) (if b then n ∷ numbers_from (suc n) c xs else numbers_from (suc n) c xs) ≡ true
    by true g = or_right (n == (n + suc k)) (has (n + suc k) (numbers_from (suc n) c xs)) g
    by false g = g
