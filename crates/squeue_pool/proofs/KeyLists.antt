-- The lists of the rings by key, and how many feeds they have.
use Rattle.std.proofs.Common.{◌≡◌, ◌≢◌, ℕ, zero, suc, ◌+◌, ◌%◌, ◌<◌, ◌≤◌, Bool, true, false, if◌then◌else◌, ◌==◌, List, [], ◌∷◌, length, map, sum, take, get_or, refl, ap, sym, ◌∙◌, arith, length-append}
use Rattle.std.specs.Prelude.{Vec}
use Rattle.std.specs.List.{range_with_len}
use Rattle.std.specs.declared.alloc.Global.{Global}
use Rattle.std.proofs.lemmas.Bool.Decides.{nat_tests}
use Rattle.std.proofs.lemmas.List.{take_more}
use Rattle.std.proofs.lemmas.List.Sums.{sum_by-cons}
use Rattle.perimeter_core.specs.declared.entries.Feed.{Feed}
use Rattle.perimeter_core.specs.History.{feed_quotas}
use Rattle.histories.specs.Quotas.{ask_quotas}
use Rattle.histories.specs.Runs.{count, is_at}
use Rattle.squeue_rings.proofs.Counting.{count_more}
use Rattle.histories.specs.Lists.{items_of, list_of}
use Rattle.histories.proofs.RingLists.{length_items}
use Rattle.squeue_pool.specs.Keys.{key_lists, quotas_at}

-- the feeds of n rings from r on, of the keys from c on
lens : ℕ → ℕ → ℕ → ℕ → List ℕ → ℕ
lens rings r zero c counts = 0
lens rings r (suc n) c counts = length (list_of rings r c counts) + lens rings (r + 1) n c counts

-- k for each of n rings from r on that is ring x
hits : ℕ → ℕ → ℕ → ℕ → ℕ
hits r zero x k = 0
hits r (suc n) x k = (if x == r then k else 0) + hits (r + 1) n x k

hits_none : (r n x k : ℕ) → x < r → hits r n x k ≡ 0
unfolding hits
hits_none r zero x k h = refl
hits_none r (suc n) x k h = let b : (x == r) ≡ false = grind (arith, nat_tests) in rw b (omega (arith, hits_none (r + 1) n x k (omega (arith, h))))

at_first : (b : Bool) (r n x k : ℕ) → (x == r) ≡ b → hits (r + 1) n x k ≤ k → (if b then k else 0) + hits (r + 1) n x k ≤ k
at_first true r n x k is h = let e : x ≡ r = grind (arith, nat_tests) in let z = hits_none (r + 1) n x k (omega (arith, e)) in omega (arith, z)
at_first false r n x k is h = omega (arith, h)

hits_one : (r n x k : ℕ) → hits r n x k ≤ k
unfolding hits
hits_one r zero x k = omega arith
hits_one r (suc n) x k = at_first (x == r) r n x k refl (hits_one (r + 1) n x k)

length_if : (b : Bool) (c k : ℕ) → length (if b then items_of c 0 k else []) ≡ (if b then k else 0)
length_if true c k = length_items c 0 k
length_if false c k = refl

lens_step : (rings r n c k : ℕ) (counts : List ℕ) → lens rings r n c (k ∷ counts) ≡ hits r n (c % rings) k + lens rings r n (suc c) counts
unfolding lens hits
lens_step rings r zero c k counts = refl
lens_step rings r (suc n) c k counts =
    omega (arith, lens_step rings (r + 1) n c k counts, length-append (if c % rings == r then items_of c 0 k else []) (list_of rings r (suc c) counts), length_if (c % rings == r) c k)

lens_none : (rings r n c : ℕ) → lens rings r n c [] ≡ 0
unfolding lens
lens_none rings r zero c = refl
lens_none rings r (suc n) c = omega (arith, lens_none rings (r + 1) n c)

lens_within : (rings r n c : ℕ) (counts : List ℕ) → lens rings r n c counts ≤ sum counts
lens_within rings r n c [] = omega (arith, lens_none rings r n c)
lens_within rings r n c (k ∷ counts) =
    omega (arith, lens_step rings r n c k counts, hits_one r n (c % rings) k, lens_within rings r n (suc c) counts, sum_by-cons (λ x. x) k counts)

-- no more feeds pass a test than there are
pub counted : (test : Feed → Bool) (fs : List Feed) → count test fs ≤ length fs
counted test [] = omega arith
counted test (f ∷ fs) = by (test f) (counted test fs)
  where
    by : (b : Bool) → count test fs ≤ length fs → (if b then 1 else 0) + count test fs ≤ length (f ∷ fs)
    by true h = omega (arith, h)
    by false h = omega (arith, h)

quotas_lens : (squeues q rings r n : ℕ) (counts : List ℕ) → feed_quotas (quotas_at squeues (map (λ r. list_of rings r 0 counts) (range_with_len r n)) q) ≤ lens rings r n 0 counts
unfolding lens
quotas_lens squeues q rings r zero counts = omega arith
quotas_lens squeues q rings r (suc n) counts = omega (arith, counted (is_at squeues 0 q) (list_of rings r 0 counts), quotas_lens squeues q rings (r + 1) n counts)

-- the quotas' feeds are no more than there are
pub few_quotas : (squeues q rings : ℕ) (counts : List ℕ) → feed_quotas (quotas_at squeues (key_lists rings counts) q) ≤ sum counts
few_quotas squeues q rings counts = omega (arith, quotas_lens squeues q rings 0 rings counts, lens_within rings 0 rings 0 counts)

pub no_asks : (squeues q : ℕ) (lists : List (List Feed)) → ask_quotas (quotas_at squeues lists q) ≡ 0
no_asks squeues q [] = refl
no_asks squeues q (l ∷ lists) = omega (arith, no_asks squeues q lists)

-- a ring's list is short
length_list : (rings r c : ℕ) (counts : List ℕ) → length (list_of rings r c counts) ≤ sum counts
length_list rings r c [] = omega arith
length_list rings r c (k ∷ counts) =
    omega (arith, length-append (if c % rings == r then items_of c 0 k else []) (list_of rings r (suc c) counts), at_most (c % rings == r), length_list rings r (suc c) counts, sum_by-cons (λ x. x) k counts)
  where
    at_most : (b : Bool) → length (if b then items_of c 0 k else []) ≤ k
    at_most true = omega (arith, length_items c 0 k)
    at_most false = omega arith

pub short_list : (rings r : ℕ) (counts : List ℕ) → length (list_of rings r 0 counts) ≤ sum counts
short_list rings r counts = length_list rings r 0 counts

-- one feed further, at home or not
module _ (squeues q : ℕ) (fs : List Feed) (i : ℕ) (f : Feed) (lt : i < length fs) (is : f ≡ get_or fs i f) where
  further : count (is_at squeues 0 q) (take (i + 1) fs) ≡ count (is_at squeues 0 q) (take i fs) + count (is_at squeues 0 q) (f ∷ [])
  further =
      ap (count (is_at squeues 0 q)) (take_more fs i f lt) ∙ (count_more (is_at squeues 0 q) (take i fs) (get_or fs i f ∷ [])
      ∙ ap (λ (g : Feed). count (is_at squeues 0 q) (take i fs) + count (is_at squeues 0 q) (g ∷ [])) (sym is))

  pub one_home : f.c % squeues ≡ q → count (is_at squeues 0 q) (take (i + 1) fs) ≡ count (is_at squeues 0 q) (take i fs) + 1
  one_home home =
      let b : (f.c % squeues == q) ≡ true = grind (arith, nat_tests) in
      let one : count (is_at squeues 0 q) (f ∷ []) ≡ 1 = rw b refl in
      further ∙ ap (λ n. count (is_at squeues 0 q) (take i fs) + n) one

  pub one_away : f.c % squeues ≢ q → count (is_at squeues 0 q) (take (i + 1) fs) ≡ count (is_at squeues 0 q) (take i fs)
  one_away away =
      let b : (f.c % squeues == q) ≡ false = grind (arith, nat_tests) in
      let none : count (is_at squeues 0 q) (f ∷ []) ≡ 0 = rw b refl in
      omega (arith, further, none)

-- the quotas of lists that are vectors
pub quotas_map : (squeues q : ℕ) (lists : List (Vec Feed Global)) → map (λ list. (count (is_at squeues 0 q) list.items, 0)) lists ≡ quotas_at squeues (map (λ list. list.items) lists) q
quotas_map squeues q [] = refl
quotas_map squeues q (l ∷ lists) = ap (λ (rest : List (ℕ × ℕ)). (count (is_at squeues 0 q) l.items, 0) ∷ rest) (quotas_map squeues q lists)
