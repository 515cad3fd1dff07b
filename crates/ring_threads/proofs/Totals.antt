-- What is counted over a ring's list is the sum over its connections of what is counted over the feeds of each.
use Rattle.std.proofs.Common.{◌≡◌, ◌≢◌, ℕ, zero, suc, ◌+◌, ◌-◌, ◌%◌, ◌<◌, ◌≤◌, ◌==◌, inl, inr, Bool, true, false, if◌then◌else◌, List, [], ◌∷◌, length, map, filter, sum_by, refl, ap, sym, ◌∙◌, arith}
use Rattle.std.specs.Prelude.{◌&&◌, not}
use Rattle.std.specs.List.{AllByRecursion, range_with_len}
use Rattle.std.proofs.lemmas.Bool.{cases_eq, cases_lt, eqb-true, eq-eqb, ne_eqb}
use Rattle.std.proofs.lemmas.List.Sums.{sum_by-cons}
use Rattle.turn_gate.specs.History.{Each}
use Rattle.perimeter_core.specs.declared.entries.Feed.{Feed}
use Rattle.perimeter_core.specs.Deeds.{entries, feeds_of}
use Rattle.perimeter_core.specs.Backlog.{up}
use Rattle.conn_classifier.specs.Plan.{PlanOf, IsPlan, items_in}
use Rattle.conn_classifier.specs.RingList.{feeds, IsRingList}
use Rattle.histories.specs.Homes.{home, leaves_after, times_leaving}
use Rattle.histories.specs.Runs.{InOrder, brought, comes, count, is_at, is_left_by, leaves}
use Rattle.ring_quotas.specs.Quotas.{comes_after, conns_of, feeds_at, ring_asks, ring_feeds, times_coming}
use Rattle.ring_quotas.proofs.Moving.{come_never, left_never, tally, tally_more}
use Rattle.ring_threads.proofs.Listing.{by_conn, none_unknown, of_conn, only_known}

-- sums over numbers that follow one another, where one term is larger
sum_same : (g h : ℕ → ℕ) (a m : ℕ) → ((c : ℕ) → a ≤ c → h c ≡ g c) → sum_by h (range_with_len a m) ≡ sum_by g (range_with_len a m)
sum_same g h a zero e = refl
sum_same g h a (suc m) e =
    sum_by-cons h a (range_with_len (a + 1) m) ∙ ((λ i. e a (omega arith) i + sum_same g h (a + 1) m (λ c le. e c (omega (arith, le))) i) ∙ sym (sum_by-cons g a (range_with_len (a + 1) m)))

sum_larger : (g h : ℕ → ℕ) (d v a m : ℕ) → a ≤ d → d < a + m → h d ≡ v + g d → ((c : ℕ) → c ≢ d → h c ≡ g c) → sum_by h (range_with_len a m) ≡ v + sum_by g (range_with_len a m)
sum_larger g h d v a zero le lt own others = absurd (let no : ⊥ = omega (arith, le, lt) in no)
sum_larger g h d v a (suc m) le lt own others =
    let x = sum_by-cons h a (range_with_len (a + 1) m) in
    let y = sum_by-cons g a (range_with_len (a + 1) m) in
    elim (cases_eq a d) [
      | inl e ↦
          let here : h a ≡ v + g a = ap h e ∙ (own ∙ ap (λ (n : ℕ). v + g n) (sym e)) in
          let rest = sum_same g h (a + 1) m (λ c far. others c (λ i. absurd (let no : ⊥ = omega (arith, far, i, e) in no))) in
          omega (arith, x, y, here, rest)
      | inr apart ↦
          let here = others a apart in
          let rest = sum_larger g h d v (a + 1) m (omega (arith, le, apart)) (omega (arith, lt)) own others in
          omega (arith, x, y, here, rest)
    ]

sum_none : (g : ℕ → ℕ) (a m : ℕ) → ((c : ℕ) → g c ≡ 0) → sum_by g (range_with_len a m) ≡ 0
sum_none g a zero e = refl
sum_none g a (suc m) e = let x = sum_by-cons g a (range_with_len (a + 1) m) in let r = sum_none g (a + 1) m e in let here = e a in omega (arith, x, r, here)

-- only those that pass count
sum_passing : (on : ℕ → Bool) (g h : ℕ → ℕ) (n a m : ℕ) → a + m ≤ n → ((c : ℕ) → c < n → on c ≡ true → h c ≡ g c) → ((c : ℕ) → c < n → on c ≡ false → h c ≡ 0)
    → sum_by h (range_with_len a m) ≡ sum_by g (filter on (range_with_len a m))
sum_passing on g h n a zero le passes fails = refl
sum_passing on g h n a (suc m) le passes fails = by (on a) refl (sum_passing on g h n (a + 1) m (omega (arith, le)) passes fails)
  where
    by : (b : Bool) → on a ≡ b → sum_by h (range_with_len (a + 1) m) ≡ sum_by g (filter on (range_with_len (a + 1) m))
        → sum_by h (range_with_len a (suc m)) ≡ sum_by g (if b then a ∷ filter on (range_with_len (a + 1) m) else filter on (range_with_len (a + 1) m))
    by true e r = let x = sum_by-cons h a (range_with_len (a + 1) m) in let y = sum_by-cons g a (filter on (range_with_len (a + 1) m)) in let here = passes a (omega (arith, le)) e in omega (arith, x, y, here, r)
    by false e r = let x = sum_by-cons h a (range_with_len (a + 1) m) in let here = fails a (omega (arith, le)) e in omega (arith, x, here, r)

-- a count over a list is the sum of the counts over the feeds of each connection
pub by_conns : (test : Feed → Bool) (n : ℕ) (fs : List Feed) → AllByRecursion (λ (f : Feed). f.c < n) fs → count test fs ≡ sum_by (λ c. count test (of_conn c fs)) (range_with_len 0 n)
by_conns test n [] all = sym (sum_none (λ c. 0) 0 n (λ c. refl))
by_conns test n (f ∷ fs) all =
    let own : count test (of_conn f.c (f ∷ fs)) ≡ (if test f then 1 else 0) + count test (of_conn f.c fs) = (let e : (f.c == f.c) ≡ true = eq-eqb f.c f.c refl in rw e refl) in
    let others : (c : ℕ) → c ≢ f.c → count test (of_conn c (f ∷ fs)) ≡ count test (of_conn c fs) = λ c apart. let e : (f.c == c) ≡ false = ne_eqb f.c c (λ i. apart (sym i)) in rw e refl in
    let lt = all.0 in
    let r = by_conns test n fs all.1 in
    let s = sum_larger (λ c. count test (of_conn c fs)) (λ c. count test (of_conn c (f ∷ fs))) f.c (if test f then 1 else 0) 0 n (omega arith) (omega (arith, lt)) own others in
    ap (λ (m : ℕ). (if test f then 1 else 0) + m) r ∙ sym s

-- a count of those that also pass another test
pub count_both : (a t : Feed → Bool) (fs : List Feed) → count (λ f. a f && t f) fs ≡ count t (filter a fs)
count_both a t [] = refl
count_both a t (f ∷ fs) = by (a f) (count_both a t fs)
  where
    by : (b : Bool) → count (λ f. a f && t f) fs ≡ count t (filter a fs) → (if b && t f then 1 else 0) + count (λ f. a f && t f) fs ≡ count t (if b then f ∷ filter a fs else filter a fs)
    by true r = ap (λ (m : ℕ). (if t f then 1 else 0) + m) r
    by false r = omega (arith, r)

-- a count over the feeds of one connection is one over their numbers
count_numbers : (test : Feed → Bool) (c : ℕ) (ns : List ℕ) → count test (map (λ n. record { c = c; n = n }) ns) ≡ length (filter (λ n. test (record { c = c; n = n })) ns)
count_numbers test c [] = refl
count_numbers test c (n ∷ ns) = by (test (record { c = c; n = n })) (count_numbers test c ns)
  where
    by : (b : Bool) → count test (map (λ n. record { c = c; n = n }) ns) ≡ length (filter (λ n. test (record { c = c; n = n })) ns)
        → (if b then 1 else 0) + count test (map (λ n. record { c = c; n = n }) ns) ≡ length (if b then n ∷ filter (λ n. test (record { c = c; n = n })) ns else filter (λ n. test (record { c = c; n = n })) ns)
    by true r = omega (arith, r)
    by false r = omega (arith, r)

-- a test that says of each number but the first what another says of the one before
tally_before : (f g : ℕ → Bool) (n : ℕ) → f 0 ≡ false → ((m : ℕ) → f (suc m) ≡ g m) → tally f (suc n) ≡ tally g n
tally_before f g zero first each = let t = tally_more f 0 ∙ ap (λ (b : Bool). tally f 0 + (if b then 1 else 0)) first in omega (arith, t)
tally_before f g (suc n) first each =
    tally_more f (suc n) ∙ ((λ i. tally_before f g n first each i + (if each n i then 1 else 0)) ∙ sym (tally_more g n))

tally_moves : (f g : ℕ → Bool) (n : ℕ) → f 0 ≡ false → ((m : ℕ) → f (suc m) ≡ g m) → tally f n ≡ tally g (n - 1)
tally_moves f g zero first each = refl
tally_moves f g (suc n) first each = let e : suc n - 1 ≡ n = omega arith in tally_before f g n first each ∙ ap (tally g) (sym e)

module _ (s p q c : ℕ) where
  pub feeds_counted : (k : ℕ) → count (is_at s p q) (feeds c 0 k) ≡ feeds_at s p q c k
  feeds_counted k = count_numbers (is_at s p q) c (range_with_len 0 k)

  pub leaves_counted : (k : ℕ) → count (leaves s p q) (feeds c 0 k) ≡ times_leaving s p q c k
  leaves_counted k =
      count_numbers (leaves s p q) c (range_with_len 0 k)
      ∙ tally_moves (λ n. leaves s p q (record { c = c; n = n })) (leaves_after s p q c) k
      (ap (λ (m : ℕ). (home s p c m == q) && not (home s p c 0 == q)) (let e : 0 - 1 ≡ 0 = omega arith in e) ∙ left_never (home s p c 0) q)
      (λ m. let a : suc m - 1 ≡ m = omega arith in let b : suc m ≡ m + 1 = omega arith in λ i. (home s p c (a i) == q) && not (home s p c (b i) == q))

  pub comes_counted : (k : ℕ) → count (comes s p q) (feeds c 0 k) ≡ times_coming s p q c k
  comes_counted k =
      count_numbers (comes s p q) c (range_with_len 0 k)
      ∙ tally_moves (λ n. comes s p q (record { c = c; n = n })) (comes_after s p q c) k
      (ap (λ (m : ℕ). not (home s p c m == q) && (home s p c 0 == q)) (let e : 0 - 1 ≡ 0 = omega arith in e) ∙ come_never (home s p c 0) q)
      (λ m. let a : suc m - 1 ≡ m = omega arith in let b : suc m ≡ m + 1 = omega arith in λ i. not (home s p c (a i) == q) && (home s p c (b i) == q))

-- the list of ring r
module _ (p : PlanOf) (plan : IsPlan p) (rings r : ℕ) (list : List Feed) (is : IsRingList p rings r list) where
  -- the sum, where each connection's feeds count as so many
  total : (test : Feed → Bool) (g : ℕ → ℕ) → ((c : ℕ) → count test (feeds c 0 (length (items_in p c))) ≡ g c) → count test list ≡ sum_by g (conns_of p rings r)
  total test g each =
      by_conns test (length p.tuples) list (only_known p plan rings r list is)
      ∙ sum_passing (λ c. c % rings == r) g (λ c. count test (of_conn c list)) (length p.tuples) 0 (length p.tuples) (omega arith)
      (λ c lt on. ap (count test) (by_conn p plan rings r list is c lt ∙ ap (λ (b : Bool). if b then feeds c 0 (length (items_in p c)) else []) on) ∙ each c)
      (λ c lt off. ap (count test) (by_conn p plan rings r list is c lt ∙ ap (λ (b : Bool). if b then feeds c 0 (length (items_in p c)) else []) off))

  module _ (squeues spread q : ℕ) where
    pub all_feeds : count (is_at squeues spread q) list ≡ ring_feeds p squeues rings spread q r
    all_feeds = total (is_at squeues spread q) (λ c. feeds_at squeues spread q c (length (items_in p c))) (λ c. feeds_counted squeues spread q c (length (items_in p c)))

    sum_both : (g h : ℕ → ℕ) (ns : List ℕ) → sum_by (λ n. g n + h n) ns ≡ sum_by g ns + sum_by h ns
    sum_both g h [] = omega arith
    sum_both g h (n ∷ ns) = let r = sum_both g h ns in let x = sum_by-cons (λ n. g n + h n) n ns in let y = sum_by-cons g n ns in let z = sum_by-cons h n ns in omega (arith, r, x, y, z)

    pub all_asks : count (leaves squeues spread q) list + count (comes squeues spread q) list ≡ ring_asks p squeues rings spread q r
    all_asks =
        let l = total (leaves squeues spread q) (λ c. times_leaving squeues spread q c (length (items_in p c))) (λ c. leaves_counted squeues spread q c (length (items_in p c))) in
        let m = total (comes squeues spread q) (λ c. times_coming squeues spread q c (length (items_in p c))) (λ c. comes_counted squeues spread q c (length (items_in p c))) in
        let b = sum_both (λ c. times_leaving squeues spread q c (length (items_in p c))) (λ c. times_coming squeues spread q c (length (items_in p c))) (conns_of p rings r) in
        (λ i. l i + m i) ∙ sym b

    -- a connection leaves the squeue as often as its feeds say, and none that isn't the ring's
    pub each_leaves : (c : ℕ) → c < length p.tuples → count (is_left_by squeues spread c q) list ≤ times_leaving squeues spread q c (length (items_in p c))
    each_leaves c lt =
        let e = count_both (λ f. f.c == c) (leaves squeues spread q) list ∙ ap (count (leaves squeues spread q)) (by_conn p plan rings r list is c lt) in
        let l = leaves_counted squeues spread q c (length (items_in p c)) in
        by (c % rings == r) e l
      where
        by : (b : Bool) → count (is_left_by squeues spread c q) list ≡ count (leaves squeues spread q) (if b then feeds c 0 (length (items_in p c)) else [])
            → count (leaves squeues spread q) (feeds c 0 (length (items_in p c))) ≡ times_leaving squeues spread q c (length (items_in p c)) → count (is_left_by squeues spread c q) list ≤ times_leaving squeues spread q c (length (items_in p c))
        by true e l = omega (arith, e, l)
        by false e l = omega (arith, e)

    pub none_leaves : (c : ℕ) → length p.tuples ≤ c → count (is_left_by squeues spread c q) list ≡ 0
    none_leaves c ge = count_both (λ f. f.c == c) (leaves squeues spread q) list ∙ ap (count (leaves squeues spread q)) (none_unknown p plan rings r list is c ge)

  numbers : (c : ℕ) (fs : List Feed) → feeds_of c (entries fs) ≡ map (λ (f : Feed). f.n) (of_conn c fs)
  numbers c [] = refl
  numbers c (f ∷ fs) = by (f.c == c) (numbers c fs)
    where
      by : (b : Bool) → feeds_of c (entries fs) ≡ map (λ (f : Feed). f.n) (of_conn c fs) → (if b then f.n ∷ feeds_of c (entries fs) else feeds_of c (entries fs)) ≡ map (λ (f : Feed). f.n) (if b then f ∷ of_conn c fs else of_conn c fs)
      by true r = ap (λ (l : List ℕ). f.n ∷ l) r
      by false r = r

  their_numbers : (c : ℕ) (a k : ℕ) → map (λ (f : Feed). f.n) (feeds c a k) ≡ up a k
  their_numbers c a zero = refl
  their_numbers c a (suc k) = let e : a + 1 ≡ suc a = omega arith in ap (λ (l : List ℕ). a ∷ l) (their_numbers c (a + 1) k ∙ ap (λ (m : ℕ). up m k) e)

  up_length : (a k : ℕ) → length (up a k) ≡ k
  up_length a zero = refl
  up_length a (suc k) = ap suc (up_length (suc a) k)

  in_order : (c k : ℕ) → feeds_of c (entries list) ≡ up 0 k → (feeds_of c (entries list) ≡ up 0 (brought c list)) × (brought c list ≡ k)
  in_order c k e = let l : brought c list ≡ k = ap length e ∙ up_length 0 k in (e ∙ ap (up 0) (sym l), l)

  ring_numbers : (c : ℕ) → c < length p.tuples → (c % rings == r) ≡ true → feeds_of c (entries list) ≡ up 0 (length (items_in p c))
  ring_numbers c lt on =
      numbers c list ∙ (ap (map (λ (f : Feed). f.n)) (by_conn p plan rings r list is c lt ∙ ap (λ (b : Bool). if b then feeds c 0 (length (items_in p c)) else []) on) ∙ their_numbers c 0 (length (items_in p c)))

  other_numbers : (c : ℕ) → c < length p.tuples → (c % rings == r) ≡ false → feeds_of c (entries list) ≡ []
  other_numbers c lt off = numbers c list ∙ ap (map (λ (f : Feed). f.n)) (by_conn p plan rings r list is c lt ∙ ap (λ (b : Bool). if b then feeds c 0 (length (items_in p c)) else []) off)

  no_numbers : (c : ℕ) → length p.tuples ≤ c → feeds_of c (entries list) ≡ []
  no_numbers c ge = numbers c list ∙ ap (map (λ (f : Feed). f.n)) (none_unknown p plan rings r list is c ge)

  -- each connection of the ring is brought whole and in order
  pub order : InOrder list
  order c =
      elim (cases_lt c (length p.tuples)) [
        | inl lt ↦ by c lt (c % rings == r) refl
        | inr ge ↦ (in_order c 0 (no_numbers c ge)).0
      ]
    where
      by : (c : ℕ) → c < length p.tuples → (b : Bool) → (c % rings == r) ≡ b → feeds_of c (entries list) ≡ up 0 (brought c list)
      by c lt true e = (in_order c (length (items_in p c)) (ring_numbers c lt e)).0
      by c lt false e = (in_order c 0 (other_numbers c lt e)).0

  pub whole : (c : ℕ) → c < length p.tuples → (c % rings == r) ≡ true → brought c list ≡ length (items_in p c)
  whole c lt on = (in_order c (length (items_in p c)) (ring_numbers c lt on)).1

  pub brought_known : (c : ℕ) → c < length p.tuples → brought c list ≤ length (items_in p c)
  brought_known c lt = by (c % rings == r) refl
    where
      by : (b : Bool) → (c % rings == r) ≡ b → brought c list ≤ length (items_in p c)
      by true e = let w = whole c lt e in omega (arith, w)
      by false e = let n = (in_order c 0 (other_numbers c lt e)).1 in omega (arith, n)

  pub brought_unknown : (c : ℕ) → length p.tuples ≤ c → brought c list ≡ 0
  brought_unknown c ge = (in_order c 0 (no_numbers c ge)).1

  -- each feed is one of the ring's
  pub own : Each (λ (f : Feed). (r ≡ f.c % rings) × (f.c < length p.tuples)) list
  own = each list (only_known p plan rings r list is) (λ c lt off. by_conn p plan rings r list is c lt ∙ ap (λ (b : Bool). if b then feeds c 0 (length (items_in p c)) else []) off)
    where
      each : (fs : List Feed) → AllByRecursion (λ (f : Feed). f.c < length p.tuples) fs → ((c : ℕ) → c < length p.tuples → (c % rings == r) ≡ false → of_conn c fs ≡ [])
          → Each (λ (f : Feed). (r ≡ f.c % rings) × (f.c < length p.tuples)) fs
      each [] all none = tt
      each (f ∷ fs) all none = ((here (f.c % rings == r) refl, all.0), each fs all.1 (λ c lt off. rest c lt off (f.c == c) refl))
        where
          here : (b : Bool) → (f.c % rings == r) ≡ b → r ≡ f.c % rings
          here true e = sym (eqb-true (f.c % rings) r e)
          here false e =
              let self : (f.c == f.c) ≡ true = eq-eqb f.c f.c refl in
              let no : (f ∷ of_conn f.c fs) ≡ [] = sym (ap (λ (b : Bool). if b then f ∷ of_conn f.c fs else of_conn f.c fs) self) ∙ none f.c all.0 e in
              absurd (cc no)

          rest : (c : ℕ) → c < length p.tuples → (c % rings == r) ≡ false → (b : Bool) → (f.c == c) ≡ b → of_conn c fs ≡ []
          rest c lt off true e = let no : (f ∷ of_conn c fs) ≡ [] = sym (ap (λ (b : Bool). if b then f ∷ of_conn c fs else of_conn c fs) e) ∙ none c lt off in absurd (cc no)
          rest c lt off false e = sym (ap (λ (b : Bool). if b then f ∷ of_conn c fs else of_conn c fs) e) ∙ none c lt off
