-- The limit on marks bounds all that the quotas of a squeue say, and so the items of each connection: each is entered at some squeue.
use Rattle.std.proofs.Common.{◌≡◌, ◌∙◌, ℕ, zero, suc, ◌+◌, ◌*◌, ◌%◌, ◌<◌, ◌≤◌, ◌==◌, inl, inr, Bool, true, false, if◌then◌else◌, List, [], ◌∷◌, ◌++◌, length, map, filter, get_or, sum_by, refl, subst, arith}
use Rattle.std.specs.List.{range_with_len}
use Rattle.std.proofs.lemmas.Bool.{cases_eq}
use Rattle.std.proofs.lemmas.List.FromFn.{get_or-range_with_len, length-range_with_len}
use Rattle.std.proofs.lemmas.List.Sums.{get_or-le-sum_by, sum_by-cons}
use Rattle.std.proofs.lemmas.Nat.{mod_below}
use Rattle.perimeter_core.specs.History.{all_quotas}
use Rattle.conn_classifier.specs.Plan.{PlanOf, items_in}
use Rattle.conn_blocks.specs.CallLists.{CallLists}
use Rattle.histories.specs.Homes.{home}
use Rattle.ring_quotas.specs.declared.setup.Setup.{Setup}
use Rattle.ring_quotas.specs.Quotas.{caller_asks, feeds_at, marks_most, quotas_of, ring_asks, ring_feeds}
use Rattle.ring_quotas.proofs.Moving.{home_below}
use Rattle.squeue_drain.proofs.Hands.{same_pass}

-- sums over numbers that follow one another, of terms that aren't smaller
sums_grow : (g h : ℕ → ℕ) (a m : ℕ) → ((q : ℕ) → g q ≤ h q) → sum_by g (range_with_len a m) ≤ sum_by h (range_with_len a m)
sums_grow g h a zero le = omega arith
sums_grow g h a (suc m) le =
    let x = sum_by-cons g a (range_with_len (a + 1) m) in
    let y = sum_by-cons h a (range_with_len (a + 1) m) in
    omega (arith, x, y, le a, sums_grow g h (a + 1) m le)

-- and one of which is larger
sums_grow_more : (g h : ℕ → ℕ) (d a m : ℕ) → a ≤ d → d < a + m → ((q : ℕ) → g q ≤ h q) → g d < h d → sum_by g (range_with_len a m) < sum_by h (range_with_len a m)
sums_grow_more g h d a zero low high le more = absurd (omega (arith, low, high))
sums_grow_more g h d a (suc m) low high le more =
    let x = sum_by-cons g a (range_with_len (a + 1) m) in
    let y = sum_by-cons h a (range_with_len (a + 1) m) in
    elim (cases_eq a d) [
      | inl e ↦ let here : g a < h a = rw e more in omega (arith, x, y, here, sums_grow g h (a + 1) m le)
      | inr apart ↦ omega (arith, x, y, le a, sums_grow_more g h d (a + 1) m (omega (arith, low, apart)) (omega (arith, high)) le more)
    ]

-- a term of such a sum, where only those that pass count
one_of : (on : ℕ → Bool) (g : ℕ → ℕ) (d a m : ℕ) → a ≤ d → d < a + m → on d ≡ true → g d ≤ sum_by g (filter on (range_with_len a m))
one_of on g d a zero low high passes = absurd (omega (arith, low, high))
one_of on g d a (suc m) low high passes =
    elim (cases_eq a d) [
      | inl e ↦ rw (e, passes) (let x = sum_by-cons g d (filter on (range_with_len (d + 1) m)) in omega (arith, x))
      | inr apart ↦ by (on a) (one_of on g d (a + 1) m (omega (arith, low, apart)) (omega (arith, high)) passes)
    ]
  where
    by : (b : Bool) → g d ≤ sum_by g (filter on (range_with_len (a + 1) m)) → g d ≤ sum_by g (if b then a ∷ filter on (range_with_len (a + 1) m) else filter on (range_with_len (a + 1) m))
    by true le = let x = sum_by-cons g a (filter on (range_with_len (a + 1) m)) in omega (arith, x, le)
    by false le = le

-- numbers that each have a home below n, counted by home
by_home : (f : ℕ → ℕ) (n : ℕ) (xs : List ℕ) → ((x : ℕ) → f x < n) → length xs ≤ sum_by (λ q. length (filter (λ x. f x == q) xs)) (range_with_len 0 n)
by_home f n [] below = omega arith
by_home f n (x ∷ xs) below =
    let rest : length xs ≤ sum_by (λ q. length (filter (λ y. f y == q) xs)) (range_with_len 0 n) = by_home f n xs below in
    let low = below x in
    let more =
    sums_grow_more (λ q. length (filter (λ y. f y == q) xs)) (λ q. length (filter (λ y. f y == q) (x ∷ xs))) (f x) 0 n (omega arith) (omega (arith, low)) (λ q. each q (f x == q)) (rw (same_pass (f x)) (omega arith)) in
    omega (arith, rest, more)
  where
    each : (q : ℕ) (b : Bool) → length (filter (λ y. f y == q) xs) ≤ length (if b then x ∷ filter (λ y. f y == q) xs else filter (λ y. f y == q) xs)
    each q true = omega arith
    each q false = omega arith

-- the feeds of one pass are among all quotas
quota_in : (f : ℕ → ℕ × ℕ) (more : List (ℕ × ℕ)) (r a m : ℕ) → a ≤ r → r < a + m → (f r).0 ≤ all_quotas (map f (range_with_len a m) ++ more)
quota_in f more r a zero low high = absurd (omega (arith, low, high))
quota_in f more r a (suc m) low high =
    elim (cases_eq a r) [
      | inl e ↦ let here : (f r).0 ≡ (f a).0 = rw e refl in omega (arith, here)
      | inr apart ↦ omega (arith, quota_in f more r (a + 1) m (omega (arith, low, apart)) (omega (arith, high)))
    ]

module _ (p : PlanOf) (calls : CallLists) (s : Setup) where
  abbrev quotas : ℕ → List (ℕ × ℕ)
  quotas q = quotas_of p calls s.squeues s.rings s.spread q

  abbrev marks_at : ℕ → ℕ
  marks_at q = 8 * all_quotas (quotas q) + 4 * (length (quotas q) + 1)

  -- the marks of one squeue are among all
  pub few_marks : (q : ℕ) → q < s.squeues → 8 * all_quotas (quotas q) + 4 * (length (quotas q) + 1) ≤ marks_most p calls s
  few_marks q lt =
      let same : get_or (range_with_len 0 s.squeues) q 0 ≡ q = get_or-range_with_len 0 s.squeues q 0 lt ∙ (let e : 0 + q ≡ q = omega arith in e) in
      subst (λ (k : ℕ). marks_at k ≤ marks_most p calls s) same (get_or-le-sum_by marks_at (range_with_len 0 s.squeues) q 0 (omega (arith, lt, length-range_with_len 0 s.squeues)))

  feeds_in : (q c : ℕ) → 0 < s.rings → c < length p.tuples → feeds_at s.squeues s.spread q c (length (items_in p c)) ≤ all_quotas (quotas q)
  feeds_in q c some lt =
      let r = c % s.rings in
      let below = mod_below c s.rings some in
      let own = one_of (λ d. d % s.rings == r) (λ d. feeds_at s.squeues s.spread q d (length (items_in p d))) c 0 (length p.tuples) (omega arith) (omega (arith, lt)) (same_pass r) in
      let all =
      quota_in (λ i. (ring_feeds p s.squeues s.rings s.spread q i, ring_asks p s.squeues s.rings s.spread q i))
      (map (λ j. (0, caller_asks p calls s.squeues s.spread q j)) (range_with_len 0 4)) r 0 s.rings (omega arith) (omega (arith, below)) in
      omega (arith, own, all)

  pub few_items : (c : ℕ) → 0 < s.squeues → 0 < s.rings → c < length p.tuples → length (items_in p c) ≤ marks_most p calls s
  few_items c some ringed lt =
      let n = length (items_in p c) in
      let homes = by_home (home s.squeues s.spread c) s.squeues (range_with_len 0 n) (λ x. home_below s.squeues s.spread c x some) in
      let most = sums_grow (λ q. feeds_at s.squeues s.spread q c n) marks_at 0 s.squeues (λ q. omega (arith, feeds_in q c ringed lt)) in
      omega (arith, homes, most, length-range_with_len 0 n)
