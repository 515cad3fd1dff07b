-- The calls of lists: each stands among all of them, with its connection, its thread and its number, and no other.
use Rattle.std.proofs.Common.{◌≡◌, ℕ, ◌+◌, ◌<◌, suc, zero, inl, inr, List, [], ◌∷◌, ◌++◌, Some, length, map, slice_get, slice_index_or, ap, sym, ◌∙◌, subst, arith}
use Rattle.std.specs.Prelude.{All, Contains}
use Rattle.std.proofs.lemmas.List.Elements.{All-append, All-cons, All-head, All-nil, All-tail, Contains-append_cases, Contains-append_left, Contains-append_right}
use Rattle.perimeter_core.specs.Residing.{IsWithin}
use Rattle.squeue_rings.specs.Doing.{called_by}
use Rattle.squeue_pool.specs.Calls.{all_from, calls_from, limits_for}

named_has : (j k : ℕ) (called : List ℕ) (m c : ℕ) → slice_get called m ≡ Some c → Contains (calls_from j k called) (c, j, k + m)
named_has j k [] m c e = cc e
named_has j k (d ∷ called) zero c e =
    let same : d ≡ c = cc e in
    let number : k ≡ k + zero = omega arith in
    (0, omega arith, λ i. (same i, j, number i))
named_has j k (d ∷ called) (suc m) c e =
    let number : suc k + m ≡ k + suc m = omega arith in
    let r : Contains (calls_from j (suc k) called) (c, j, k + suc m) = subst (λ n. Contains (calls_from j (suc k) called) (c, j, n)) number (named_has j (suc k) called m c e) in
    let lt = r.1 in
    (suc r.0, omega (arith, lt), r.2)

all_have : (j : ℕ) (calls : List (List ℕ)) (i k c : ℕ) → slice_get (called_by calls i) k ≡ Some c → Contains (all_from j calls) (c, j + i, k)
all_have j [] i k c e = cc e
all_have j (called ∷ calls) zero k c e =
    let thread : j ≡ j + zero = omega arith in
    let number : 0 + k ≡ k = omega arith in
    let here = subst (λ n. Contains (calls_from j 0 called) (c, j, n)) number (named_has j 0 called k c e) in
    subst (λ t. Contains (calls_from j 0 called ++ all_from (suc j) calls) (c, t, k)) thread (Contains-append_left (calls_from j 0 called) (all_from (suc j) calls) (c, j, k) here)
all_have j (called ∷ calls) (suc i) k c e =
    let thread : suc j + i ≡ j + suc i = omega arith in
    Contains-append_right (calls_from j 0 called) (all_from (suc j) calls) (c, j + suc i, k) (subst (λ t. Contains (all_from (suc j) calls) (c, t, k)) thread (all_have (suc j) calls i k c e))

-- a call of the lists exists
pub call_exists : (calls : List (List ℕ)) (j k c : ℕ) → slice_get (called_by calls j) k ≡ Some c → Contains (all_from 0 calls) (c, j, k)
call_exists calls j k c e =
    let thread : 0 + j ≡ j = omega arith in
    subst (λ t. Contains (all_from 0 calls) (c, t, k)) thread (all_have 0 calls j k c e)

-- and one that exists is of the lists
abbrev IsNamed : ℕ → ℕ → List ℕ → ℕ × ℕ × ℕ → Type 0
IsNamed j k called x = (m : ℕ) × (x.1 ≡ j) × (x.2 ≡ k + m) × (slice_get called m ≡ Some x.0)

named_one : (j k : ℕ) (called : List ℕ) (i : ℕ) (x : ℕ × ℕ × ℕ) → i < length (calls_from j k called) → slice_index_or (calls_from j k called) i x ≡ x → IsNamed j k called x
named_one j k [] i x lt e = absurd (let no : ⊥ = omega arith in no)
named_one j k (d ∷ called) zero x lt e =
    let number = ap (λ (t : ℕ × ℕ × ℕ). t.2) e in
    (0, ap (λ (t : ℕ × ℕ × ℕ). t.1) (sym e), omega (arith, number), ap (λ (t : ℕ × ℕ × ℕ). Some t.0) e)
named_one j k (d ∷ called) (suc i) x lt e =
    let r = named_one j (suc k) called i x (omega (arith, lt)) e in
    let number = r.2 in (suc r.0, r.1, omega (arith, number), r.3)

abbrev IsListed : ℕ → List (List ℕ) → ℕ × ℕ × ℕ → Type 0
IsListed j calls x = (m : ℕ) × (x.1 ≡ j + m) × (slice_get (called_by calls m) x.2 ≡ Some x.0)

listed : (j : ℕ) (calls : List (List ℕ)) (x : ℕ × ℕ × ℕ) → Contains (all_from j calls) x → IsListed j calls x
listed j [] x h = absurd (let lt = h.1 in let no : ⊥ = omega (arith, lt) in no)
listed j (called ∷ calls) x h =
    elim (Contains-append_cases (calls_from j 0 called) (all_from (suc j) calls) x h) [
      | inl here ↦
          let r = named_one j 0 called here.0 x here.1 here.2 in
          let thread = r.1 in
          let number : x.2 ≡ r.0 = omega (arith, r.2) in
          (0, omega (arith, thread), ap (slice_get called) number ∙ r.3)
      | inr later ↦
          let r = listed (suc j) calls x later in
          let thread = r.1 in
          (suc r.0, omega (arith, thread), r.2)
    ]

pub call_listed : (calls : List (List ℕ)) (c j k : ℕ) → Contains (all_from 0 calls) (c, j, k) → slice_get (called_by calls j) k ≡ Some c
call_listed calls c j k h =
    let r = listed 0 calls (c, j, k) h in
    let same : r.0 ≡ j = omega (arith, r.1) in
    subst (λ (i : ℕ). slice_get (called_by calls i) k ≡ Some c) same r.2

-- each is on a connection that there is
call_at : (n : ℕ) (called : List ℕ) (k c : ℕ) → All (λ d. d < n) called → slice_get called k ≡ Some c → c < n
call_at n [] k c all e = cc e
call_at n (d ∷ called) zero c all e = let same : d ≡ c = cc e in let lt : d < n = All-head (λ (d : ℕ). d < n) d called all in omega (arith, same, lt)
call_at n (d ∷ called) (suc k) c all e = call_at n called k c (All-tail (λ (d : ℕ). d < n) d called all) e

pub call_within : (n : ℕ) (calls : List (List ℕ)) (j k c : ℕ) → All (λ called. All (λ d. d < n) called) calls → slice_get (called_by calls j) k ≡ Some c → c < n
call_within n [] j k c all e = cc e
call_within n (called ∷ calls) zero k c all e = call_at n called k c (All-head (λ (xs : List ℕ). All (λ d. d < n) xs) called calls all) e
call_within n (called ∷ calls) (suc j) k c all e = call_within n calls j k c (All-tail (λ (xs : List ℕ). All (λ d. d < n) xs) called calls all) e

from_within : (n j k : ℕ) (called : List ℕ) → All (λ d. d < n) called → All (λ (call : ℕ × ℕ × ℕ). call.0 < n) (calls_from j k called)
from_within n j k [] all = All-nil (λ (call : ℕ × ℕ × ℕ). call.0 < n)
from_within n j k (d ∷ called) all =
    All-cons (λ (call : ℕ × ℕ × ℕ). call.0 < n) (d, j, k) (calls_from j (suc k) called) (All-head (λ (d : ℕ). d < n) d called all) (from_within n j (suc k) called (All-tail (λ (d : ℕ). d < n) d called all))

all_within : (n j : ℕ) (calls : List (List ℕ)) → All (λ called. All (λ d. d < n) called) calls → All (λ (call : ℕ × ℕ × ℕ). call.0 < n) (all_from j calls)
all_within n j [] all = All-nil (λ (call : ℕ × ℕ × ℕ). call.0 < n)
all_within n j (called ∷ calls) all =
    All-append (λ (call : ℕ × ℕ × ℕ). call.0 < n) (calls_from j 0 called) (all_from (suc j) calls)
    (from_within n j 0 called (All-head (λ (xs : List ℕ). All (λ d. d < n) xs) called calls all))
    (all_within n (suc j) calls (All-tail (λ (xs : List ℕ). All (λ d. d < n) xs) called calls all))

pub limits_within : (counts : List ℕ) (calls : List (List ℕ)) → All (λ called. All (λ d. d < length counts) called) calls → IsWithin (length counts) (limits_for counts calls)
limits_within counts calls all = record { feeds = omega arith; leaves = omega arith; calls = all_within (length counts) 0 calls all }

-- what is so of all of a map is so of all that were mapped
pub all_mapped : {A B : Type 0} (P : B → Type 0) (f : A → B) (xs : List A) → All P (map f xs) → All (λ x. P (f x)) xs
all_mapped P f [] all = All-nil (λ x. P (f x))
all_mapped P f (x ∷ xs) all = All-cons (λ x. P (f x)) x xs (All-head P (f x) (map f xs) all) (all_mapped P f xs (All-tail P (f x) (map f xs) all))
