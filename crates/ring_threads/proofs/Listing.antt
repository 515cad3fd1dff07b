-- A ring's list by its connections: the feeds of each are all that it has, in order.
use Rattle.std.proofs.Common.{◌≡◌, ◌≢◌, ℕ, zero, suc, ◌+◌, ◌-◌, ◌%◌, ◌<◌, ◌≤◌, ◌==◌, inl, inr, Bool, true, false, if◌then◌else◌, List, [], ◌∷◌, ◌++◌, length, map, filter, refl, ap, sym, ◌∙◌, subst, arith}
use Rattle.std.specs.List.{AllByRecursion, range_with_len}
use Rattle.std.proofs.lemmas.Bool.{cases_eq, eq-eqb, ne_eqb}
use Rattle.std.proofs.lemmas.List.{map-append}
use Rattle.std.proofs.lemmas.List.Elements.{filter-append}
use Rattle.perimeter_core.specs.declared.entries.Feed.{Feed}
use Rattle.conn_classifier.specs.Plan.{PlanOf, IsPlan, items_in}
use Rattle.conn_classifier.specs.RingList.{feeds, last_feeds, IsRingList}
use Rattle.conn_classifier.proofs.PlanFacts.{items_at}
use Rattle.conn_classifier.proofs.PlanLaw.{all_append}
use Rattle.ring_quotas.proofs.Moving.{range_more}

-- the feeds of one connection among these
abbrev pub of_conn : ℕ → List Feed → List Feed
of_conn c fs = filter (λ (f : Feed). f.c == c) fs

-- of the last feeds, one is a connection's where it is among those counted
module _ (on : ℕ → Bool) (last : ℕ → ℕ) (c : ℕ) where
  abbrev lasts : ℕ → ℕ → List Feed
  lasts a m = map (λ d. record { c = d; n = last d }) (filter on (range_with_len a m))

  lasts_next : (a m : ℕ) → lasts a (suc m) ≡ (if on a then record { c = a; n = last a } ∷ lasts (a + 1) m else lasts (a + 1) m)
  lasts_next a m = by (on a)
    where
      by : (b : Bool) → map (λ d. record { c = d; n = last d }) (if b then a ∷ filter on (range_with_len (a + 1) m) else filter on (range_with_len (a + 1) m)) ≡ (if b then record { c = a; n = last a } ∷ lasts (a + 1) m else lasts (a + 1) m)
      by true = refl
      by false = refl

  skipped : (a : ℕ) (fs : List Feed) → a ≢ c → of_conn c (if on a then record { c = a; n = last a } ∷ fs else fs) ≡ of_conn c fs
  skipped a fs apart = by (on a)
    where
      by : (b : Bool) → of_conn c (if b then record { c = a; n = last a } ∷ fs else fs) ≡ of_conn c fs
      by true = let e : (a == c) ≡ false = ne_eqb a c apart in rw e refl
      by false = refl

  pub none_behind : (a m : ℕ) → c < a → of_conn c (lasts a m) ≡ []
  none_behind a zero lt = refl
  none_behind a (suc m) lt =
      ap (of_conn c) (lasts_next a m) ∙ (skipped a (lasts (a + 1) m) (λ e. absurd (let no : ⊥ = omega (arith, lt, e) in no)) ∙ none_behind (a + 1) m (omega (arith, lt)))

  pub one_among : (a m : ℕ) → a ≤ c → c < a + m → of_conn c (lasts a m) ≡ (if on c then record { c = c; n = last c } ∷ [] else [])
  one_among a zero le lt = absurd (let no : ⊥ = omega (arith, le, lt) in no)
  one_among a (suc m) le lt =
      elim (cases_eq a c) [
        | inl e ↦
            ap (of_conn c) (lasts_next a m)
            ∙ (ap (λ (d : ℕ). of_conn c (if on d then record { c = d; n = last d } ∷ lasts (a + 1) m else lasts (a + 1) m)) e
            ∙ here (lasts (a + 1) m) (none_behind (a + 1) m (omega (arith, e))))
        | inr apart ↦
            ap (of_conn c) (lasts_next a m) ∙ (skipped a (lasts (a + 1) m) apart ∙ one_among (a + 1) m (omega (arith, le, apart)) (omega (arith, lt)))
      ]
    where
      here : (fs : List Feed) → of_conn c fs ≡ [] → of_conn c (if on c then record { c = c; n = last c } ∷ fs else fs) ≡ (if on c then record { c = c; n = last c } ∷ [] else [])
      here fs none = by (on c)
        where
          by : (b : Bool) → of_conn c (if b then record { c = c; n = last c } ∷ fs else fs) ≡ (if b then record { c = c; n = last c } ∷ [] else [])
          by true = let e : (c == c) ≡ true = eq-eqb c c refl in rw e (ap (λ (l : List Feed). record { c = c; n = last c } ∷ l) none)
          by false = none

pub all_lasts : (on : ℕ → Bool) (last : ℕ → ℕ) (n a m : ℕ) → a + m ≤ n → AllByRecursion (λ (f : Feed). f.c < n) (lasts on last 0 a m)
all_lasts on last n a zero le = tt
all_lasts on last n a (suc m) le =
    subst (AllByRecursion (λ (f : Feed). f.c < n)) (sym (lasts_next on last 0 a m)) (by (on a) (all_lasts on last n (a + 1) m (omega (arith, le))))
  where
    by : (b : Bool) → AllByRecursion (λ (f : Feed). f.c < n) (lasts on last 0 (a + 1) m) → AllByRecursion (λ (f : Feed). f.c < n) (if b then record { c = a; n = last a } ∷ lasts on last 0 (a + 1) m else lasts on last 0 (a + 1) m)
    by true h = (omega (arith, le), h)
    by false h = h

feeds_more : (c k : ℕ) → feeds c 0 (suc k) ≡ feeds c 0 k ++ record { c = c; n = k } ∷ []
feeds_more c k =
    let e : 0 + k ≡ k = omega arith in
    ap (map (λ (m : ℕ). record { c = c; n = m })) (range_more 0 k)
    ∙ (map-append (λ (m : ℕ). record { c = c; n = m }) (range_with_len 0 k) ((0 + k) ∷ []) ∙ ap (λ (m : ℕ). feeds c 0 k ++ record { c = c; n = m } ∷ []) e)

module _ (p : PlanOf) (plan : IsPlan p) (rings r : ℕ) (list : List Feed) (is : IsRingList p rings r list) where
  pub only_known : AllByRecursion (λ (f : Feed). f.c < length p.tuples) list
  only_known =
      subst (AllByRecursion (λ (f : Feed). f.c < length p.tuples)) (sym is.whole)
      (all_append (λ (f : Feed). f.c < length p.tuples) is.front (last_feeds p rings r (length p.tuples)) is.is.only (all_lasts (λ c. c % rings == r) (λ c. length (items_in p c) - 1) (length p.tuples) 0 (length p.tuples) (omega arith)))

  pub by_conn : (c : ℕ) → c < length p.tuples → of_conn c list ≡ (if c % rings == r then feeds c 0 (length (items_in p c)) else [])
  by_conn c lt =
      ap (of_conn c) is.whole
      ∙ (filter-append (λ (f : Feed). f.c == c) is.front (last_feeds p rings r (length p.tuples))
      ∙ ((λ i. is.is.each c lt i ++ one_among (λ c. c % rings == r) (λ c. length (items_in p c) - 1) c 0 (length p.tuples) (omega arith) (omega (arith, lt)) i) ∙ by (c % rings == r)))
    where
      by : (b : Bool) → (if b then feeds c 0 (length (items_in p c) - 1) else []) ++ (if b then record { c = c; n = length (items_in p c) - 1 } ∷ [] else []) ≡ (if b then feeds c 0 (length (items_in p c)) else [])
      by true =
          let some = items_at p c plan lt in
          sym (ap (feeds c 0) (let e : length (items_in p c) ≡ suc (length (items_in p c) - 1) = omega (arith, some.some) in e) ∙ feeds_more c (length (items_in p c) - 1))
      by false = refl

  pub none_unknown : (c : ℕ) → length p.tuples ≤ c → of_conn c list ≡ []
  none_unknown c ge = none list only_known
    where
      none : (fs : List Feed) → AllByRecursion (λ (f : Feed). f.c < length p.tuples) fs → of_conn c fs ≡ []
      none [] h = refl
      none (f ∷ fs) h = let e : (f.c == c) ≡ false = ne_eqb f.c c (λ i. let a = h.0 in absurd (let no : ⊥ = omega (arith, a, i, ge) in no)) in rw e (none fs h.1)
