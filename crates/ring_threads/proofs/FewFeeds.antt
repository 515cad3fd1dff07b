-- A ring's list has at most as many feeds as all connections have items, and one more a connection.
use Rattle.std.proofs.Common.{◌≡◌, ℕ, ◌+◌, ◌*◌, ◌^◌, ◌-◌, ◌%◌, ◌<◌, ◌≤◌, ◌==◌, nat_le, Bool, true, false, List, [], ◌∷◌, suc, length, filter, sum_by, get_or, refl, ap, sym, ◌∙◌, subst, arith, if◌then◌else◌, length-append}
use Rattle.std.specs.List.{AllByRecursion, range_with_len}
use Rattle.std.proofs.lemmas.Bool.Decides.{nat_tests}
use Rattle.std.proofs.lemmas.List.{length-map}
use Rattle.std.proofs.lemmas.List.FromFn.{length-range_with_len}
use Rattle.std.proofs.lemmas.List.Sums.{sum_by-cons}
use Rattle.perimeter_core.specs.declared.entries.Feed.{Feed}
use Rattle.conn_classifier.specs.declared.kinds.Item.{Item}
use Rattle.conn_classifier.specs.Plan.{PlanOf, IsPlan, items_in, items_together}
use Rattle.conn_classifier.specs.RingList.{IsRingList, feeds, last_feeds}
use Rattle.conn_classifier.proofs.PlanLaw.{length-filter_le}

-- the feeds of connection k, and those of the connections from it on
abbrev of_one : ℕ → List Feed → List Feed
of_one k fs = filter (λ f. f.c == k) fs

abbrev from_one : ℕ → List Feed → List Feed
from_one k fs = filter (λ f. nat_le k f.c) fs

split_at : (k : ℕ) (fs : List Feed) → length (from_one k fs) ≡ length (of_one k fs) + length (from_one (suc k) fs)
split_at k [] = refl
split_at k (f ∷ fs) = by (nat_le k f.c) (f.c == k) (nat_le (suc k) f.c) refl refl refl (split_at k fs)
  where
    by : (a b c : Bool) → nat_le k f.c ≡ a → (f.c == k) ≡ b → nat_le (suc k) f.c ≡ c
        → length (from_one k fs) ≡ length (of_one k fs) + length (from_one (suc k) fs)
        → length (from_one k (f ∷ fs)) ≡ length (of_one k (f ∷ fs)) + length (from_one (suc k) (f ∷ fs))
    by true true false e f g rest = rw (e, f, g) (omega (arith, rest))
    by true false true e f g rest = rw (e, f, g) (omega (arith, rest))
    by false false false e f g rest = rw (e, f, g) rest
    by true true true e f g rest = absurd (grind (arith, nat_tests, e, f, g))
    by true false false e f g rest = absurd (grind (arith, nat_tests, e, f, g))
    by false true c e f g rest = absurd (grind (arith, nat_tests, e, f, g))
    by false false true e f g rest = absurd (grind (arith, nat_tests, e, f, g))

none_from : (k : ℕ) (fs : List Feed) → AllByRecursion (λ (f : Feed). f.c < k) fs → length (from_one k fs) ≡ 0
none_from k [] all = refl
none_from k (f ∷ fs) all = let e : nat_le k f.c ≡ false = (let lt = all.0 in grind (arith, nat_tests)) in rw e (none_from k fs all.1)

all_from : (fs : List Feed) → length (from_one 0 fs) ≡ length fs
all_from [] = refl
all_from (f ∷ fs) = let e : nat_le 0 f.c ≡ true = grind (arith, nat_tests) in rw e (ap suc (all_from fs))

-- connections numbered from k on, each of which has at most as many feeds as items
few_from : (fs : List Feed) (k : ℕ) (xss : List (List Item)) → AllByRecursion (λ (f : Feed). f.c < k + length xss) fs
    → ((c : ℕ) → c < length xss → length (of_one (k + c) fs) ≤ length (get_or xss c []))
    → length (from_one k fs) ≤ sum_by (λ (xs : List Item). length xs) xss
few_from fs k [] all each = let e = none_from k fs (subst (λ (n : ℕ). AllByRecursion (λ (f : Feed). f.c < n) fs) (let z : k + 0 ≡ k = omega arith in z) all) in omega (arith, e)
few_from fs k (xs ∷ xss) all each =
    let rest = few_from fs (suc k) xss (subst (λ (n : ℕ). AllByRecursion (λ (f : Feed). f.c < n) fs) (let z : k + suc (length xss) ≡ suc k + length xss = omega arith in z) all)
    (λ c lt. let h = each (suc c) (omega (arith, lt)) in subst (λ (n : ℕ). length (of_one n fs) ≤ length (get_or xss c [])) (let z : k + suc c ≡ suc k + c = omega arith in z) h) in
    let here : length (of_one k fs) ≤ length xs = subst (λ (n : ℕ). length (of_one n fs) ≤ length xs) (let z : k + 0 ≡ k = omega arith in z) (each 0 (omega arith)) in
    omega (arith, rest, here, split_at k fs, sum_by-cons (λ (ys : List Item). length ys) xs xss)

numbered : (c n k : ℕ) → length (feeds c n k) ≡ k
numbered c n k = length-map {B = Feed} (range_with_len n k) (λ m. record { c = c; n = m }) ∙ length-range_with_len n k

module _ (p : PlanOf) (plan : IsPlan p) (few : items_together p ≤ 2 * 1048576 + 4096) (rings r : ℕ) (list : List Feed) (is : IsRingList p rings r list) where
  front_few : length is.front ≤ items_together p
  front_few =
      let all : AllByRecursion (λ (f : Feed). f.c < 0 + length p.items) is.front = subst (λ (n : ℕ). AllByRecursion (λ (f : Feed). f.c < n) is.front) (let e = plan.listed in let z : length p.tuples ≡ 0 + length p.items = omega (arith, e) in z) is.is.only in
      let e = all_from is.front in
      let h = few_from is.front 0 p.items all each in
      omega (arith, e, h)
    where
      each : (c : ℕ) → c < length p.items → length (of_one (0 + c) is.front) ≤ length (get_or p.items c [])
      each c lt =
          let lt' : c < length p.tuples = omega (arith, lt, plan.listed) in
          let e = ap length (is.is.each c lt') in
          let z : 0 + c ≡ c = omega arith in
          subst (λ (n : ℕ). length (of_one n is.front) ≤ length (items_in p c)) (sym z) (by (c % rings == r) e)
        where
          by : (b : Bool) → length (of_one c is.front) ≡ length (if b then feeds c 0 (length (items_in p c) - 1) else []) → length (of_one c is.front) ≤ length (items_in p c)
          by true e = let n = numbered c 0 (length (items_in p c) - 1) in omega (arith, e, n)
          by false e = omega (arith, e)

  last_few : length (last_feeds p rings r (length p.tuples)) ≤ length p.tuples
  last_few =
      let a = length-map {B = Feed} (filter (λ c. c % rings == r) (range_with_len 0 (length p.tuples))) (λ c. record { c = c; n = length (items_in p c) - 1 }) in
      let b = length-filter_le (λ c. c % rings == r) (range_with_len 0 (length p.tuples)) in
      let c = length-range_with_len 0 (length p.tuples) in
      omega (arith, a, b, c)

  pub list_few : length list < 2 ^ 32
  list_few =
      let e = ap length is.whole in
      let s = length-append is.front (last_feeds p rings r (length p.tuples)) in
      omega (arith, e, s, front_few, last_few, few, plan.few)
