-- The quotas of squeues suffice for the lists of the rings: no connection moves, and each list has its connections' feeds in order.
use Rattle.std.proofs.Common.{◌≡◌, ◌≢◌, ℕ, ◌+◌, ◌%◌, ◌<◌, ◌≤◌, ◌==◌, ◌&&◌, not, if◌then◌else◌, Bool, true, false, zero, suc, List, [], ◌∷◌, ◌++◌, length, slice_index, refl, ap, sym, ◌∙◌, subst, arith}
use Rattle.std.proofs.lemmas.Bool.Decides.{nat_tests}
use Rattle.std.proofs.lemmas.List.{append-nil}
use Rattle.turn_gate.specs.History.{Each}
use Rattle.turn_gate.proofs.Histories.{all_joined}
use Rattle.perimeter_core.specs.declared.entries.Feed.{Feed}
use Rattle.perimeter_core.specs.Backlog.{up}
use Rattle.perimeter_core.specs.Deeds.{entries, feeds_of}
use Rattle.perimeter_core.proofs.FeedLists.{length-up}
use Rattle.histories.specs.Runs.{InOrder, brought, comes, count, is_left_by, leaves}
use Rattle.squeue_rings.proofs.Counting.{feeds_more}
use Rattle.histories.specs.Lists.{items_of, list_of}

-- no connection moves
both_ways : (b : Bool) → (b && not b) ≡ false
both_ways true = refl
both_ways false = refl

other_way : (b : Bool) → (not b && b) ≡ false
other_way true = refl
other_way false = refl

never : (test : Feed → Bool) (fs : List Feed) → ((f : Feed) → test f ≡ false) → count test fs ≡ 0
never test [] none = refl
never test (f ∷ fs) none = let here = none f in let rest = never test fs none in rw here (omega (arith, rest))

pub none_leave : (squeues q : ℕ) (fs : List Feed) → count (leaves squeues 0 q) fs ≡ 0
none_leave squeues q fs = never (leaves squeues 0 q) fs (λ f. both_ways (f.c % squeues == q))

pub none_come : (squeues q : ℕ) (fs : List Feed) → count (comes squeues 0 q) fs ≡ 0
none_come squeues q fs = never (comes squeues 0 q) fs (λ f. other_way (f.c % squeues == q))

pub none_left_by : (squeues c q : ℕ) (fs : List Feed) → count (is_left_by squeues 0 c q) fs ≡ 0
none_left_by squeues c q fs = never (is_left_by squeues 0 c q) fs (λ f. by (f.c == c) (both_ways (f.c % squeues == q)))
  where
    by : (b : Bool) {x : Bool} → x ≡ false → (b && x) ≡ false
    by true h = h
    by false h = refl

-- the feeds of one connection among those of another, and among its own
own_feeds : (c n k : ℕ) → feeds_of c (entries (items_of c n k)) ≡ up n k
own_feeds c n zero = refl
own_feeds c n (suc k) = let b : (c == c) ≡ true = grind (arith, nat_tests) in rw b (ap (λ l. n ∷ l) (own_feeds c (suc n) k))

other_feeds : (c d n k : ℕ) → d ≢ c → feeds_of d (entries (items_of c n k)) ≡ []
other_feeds c d n zero h = refl
other_feeds c d n (suc k) h = let b : (c == d) ≡ false = grind (arith, nat_tests) in rw b (other_feeds c d (suc n) k h)

first_part : (b : Bool) (c d k : ℕ) → d ≢ c → feeds_of d (entries (if b then items_of c 0 k else [])) ≡ []
first_part true c d k h = other_feeds c d 0 k h
first_part false c d k h = refl

none_behind : (rings r c d : ℕ) (counts : List ℕ) → d < c → feeds_of d (entries (list_of rings r c counts)) ≡ []
none_behind rings r c d [] h = refl
none_behind rings r c d (k ∷ counts) h =
    feeds_more d (if c % rings == r then items_of c 0 k else []) (list_of rings r (suc c) counts)
    ∙ (λ j. first_part (c % rings == r) c d k (λ e. absurd (let no : ⊥ = omega (arith, e, h) in no)) j ++ none_behind rings r (suc c) d counts (omega (arith, h)) j)

-- a connection's feeds in a list are the first ones, at most as many as it has
pub record Firsts (rings r c d : ℕ) (counts : List ℕ) (most : ℕ) : Type 0 where
  pub many : ℕ
  pub are : feeds_of d (entries (list_of rings r c counts)) ≡ up 0 many
  pub few : many ≤ most

firsts : (rings r c i : ℕ) (counts : List ℕ) → Firsts rings r c (c + i) counts (slice_index counts i)
firsts rings r c i [] = record { many = 0; are = refl; few = omega arith }
firsts rings r c zero (k ∷ counts) = subst (λ (d : ℕ). Firsts rings r c d (k ∷ counts) k) z (by (c % rings == r) refl)
  where
    z : c ≡ c + 0
    z = omega arith

    by : (b : Bool) → (c % rings == r) ≡ b → Firsts rings r c c (k ∷ counts) k
    by true e = record {
      many = k;
      are = rw e (feeds_more c (items_of c 0 k) (list_of rings r (suc c) counts) ∙ ((λ j. own_feeds c 0 k j ++ none_behind rings r (suc c) c counts (omega arith) j) ∙ append-nil (up 0 k)));
      few = omega arith;
    }
    by false e = record { many = 0; are = rw e (none_behind rings r (suc c) c counts (omega arith)); few = omega arith }
firsts rings r c (suc i) (k ∷ counts) = subst (λ (d : ℕ). Firsts rings r c d (k ∷ counts) (slice_index counts i)) z (more (firsts rings r (suc c) i counts))
  where
    z : suc c + i ≡ c + suc i
    z = omega arith

    more : Firsts rings r (suc c) (suc c + i) counts (slice_index counts i) → Firsts rings r c (suc c + i) (k ∷ counts) (slice_index counts i)
    more h = record {
      many = h.many;
      are = feeds_more (suc c + i) (if c % rings == r then items_of c 0 k else []) (list_of rings r (suc c) counts)
          ∙ (λ j. first_part (c % rings == r) c (suc c + i) k (λ e. absurd (let no : ⊥ = omega (arith, e) in no)) j ++ h.are j);
      few = h.few;
    }

pub firsts_of : (rings r d : ℕ) (counts : List ℕ) → Firsts rings r 0 d counts (slice_index counts d)
firsts_of rings r d counts = let z : 0 + d ≡ d = omega arith in subst (λ (e : ℕ). Firsts rings r 0 e counts (slice_index counts d)) z (firsts rings r 0 d counts)

pub in_order : (rings r : ℕ) (counts : List ℕ) → InOrder (list_of rings r 0 counts)
in_order rings r counts d = let h = firsts_of rings r d counts in h.are ∙ ap (up 0) (sym (ap length h.are ∙ length-up 0 h.many))

pub within : (rings r d : ℕ) (counts : List ℕ) → brought d (list_of rings r 0 counts) ≤ slice_index counts d
within rings r d counts = let h = firsts_of rings r d counts in omega (arith, ap length h.are, length-up 0 h.many, h.few)

-- all of them are the ring's
own_items : (rings r n c m k : ℕ) → r ≡ c % rings → c < n → Each (λ (f : Feed). (r ≡ f.c % rings) × (f.c < n)) (items_of c m k)
own_items rings r n c m zero is lt = tt
own_items rings r n c m (suc k) is lt = ((is, lt), own_items rings r n c (suc m) k is lt)

pub own : (rings r n c : ℕ) (counts : List ℕ) → c + length counts ≤ n → Each (λ (f : Feed). (r ≡ f.c % rings) × (f.c < n)) (list_of rings r c counts)
own rings r n c [] le = tt
own rings r n c (k ∷ counts) le =
    all_joined (λ (f : Feed). (r ≡ f.c % rings) × (f.c < n)) (if c % rings == r then items_of c 0 k else []) (list_of rings r (suc c) counts) (by (c % rings == r) refl) (own rings r n (suc c) counts (omega (arith, le)))
  where
    by : (b : Bool) → (c % rings == r) ≡ b → Each (λ (f : Feed). (r ≡ f.c % rings) × (f.c < n)) (if b then items_of c 0 k else [])
    by true e = let is : r ≡ c % rings = grind (arith, nat_tests) in own_items rings r n c 0 k is (omega (arith, le))
    by false e = tt
