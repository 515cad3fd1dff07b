-- What the loops over connections, calls and passes add up.
use Rattle.std.proofs.Common.{◌≡◌, ℕ, zero, suc, ◌+◌, ◌-◌, ◌*◌, ◌%◌, ◌<◌, ◌≤◌, ◌==◌, Bool, true, false, if◌then◌else◌, Some, List, [], ◌∷◌, ◌++◌, length, map, filter, get_or, slice_get, sum_by, take, refl, ap, sym, ◌∙◌, arith, length-append}
use Rattle.std.specs.Prelude.{All}
use Rattle.std.specs.List.{range_with_len}
use Rattle.std.proofs.lemmas.List.{get_or-append-add, get_or_append_left, map-append}
use Rattle.std.proofs.lemmas.List.FromFn.{get_or-map-range_with_len, length-map-range_with_len}
use Rattle.std.proofs.lemmas.List.Elements.{All-contains, filter-append}
use Rattle.std.proofs.lemmas.List.Sums.{sum_by-append, sum_by-cons, sum_by-le-sum_by}
use Rattle.std.proofs.lemmas.Option.{slice_get-get_or}
use Rattle.perimeter_core.specs.History.{all_quotas, feed_quotas}
use Rattle.histories.specs.declared.quota.Quota.{Quota}
use Rattle.histories.specs.Quotas.{pairs, ask_quotas}
use Rattle.histories.proofs.Counts.{all_both}
use Rattle.conn_classifier.specs.Plan.{PlanOf, items_in, items_together}
use Rattle.conn_classifier.specs.declared.kinds.Item.{Item}
use Rattle.tcb_machine.specs.declared.kinds.Call.{Call}
use Rattle.conn_blocks.specs.Allowed.{all_calls}
use Rattle.conn_blocks.specs.CallLists.{CallLists, call_at}
use Rattle.histories.specs.Homes.{home, leaves_after, times_leaving}
use Rattle.conn_blocks.proofs.Named.{call_is_named}
use Rattle.ring_quotas.specs.Limits.{most_ring_asks, most_ring_feeds}
use Rattle.ring_quotas.specs.Quotas.{caller_asks, comes_after, feeds_at, quotas_of, ring_asks, ring_feeds, times_coming}
use Rattle.ring_quotas.proofs.Moving.{range_more, tally_most}
use Rattle.histories.proofs.ListPlaces.{take_one}

-- one connection more
module _ (f : ℕ → ℕ) (on : ℕ → Bool) (n : ℕ) where
  abbrev pub sum_of : ℕ → ℕ
  sum_of m = sum_by f (filter on (range_with_len 0 m))

  more : sum_of (n + 1) ≡ sum_of n + sum_by f (filter on (n ∷ []))
  more =
      let one : n + 1 ≡ suc n = omega arith in
      let e : 0 + n ≡ n = omega arith in
      ap sum_of one
      ∙ (ap (λ (l : List ℕ). sum_by f (filter on l)) (range_more 0 n ∙ ap (λ (m : ℕ). range_with_len 0 n ++ m ∷ []) e)
      ∙ (ap (sum_by f) (filter-append on (range_with_len 0 n) (n ∷ [])) ∙ sum_by-append f (filter on (range_with_len 0 n)) (filter on (n ∷ []))))

  pub sum_on : on n ≡ true → sum_of (n + 1) ≡ sum_of n + f n
  sum_on e = let m = more ∙ ap (λ (b : Bool). sum_of n + sum_by f (if b then n ∷ [] else [])) e in omega (arith, m)

  pub sum_off : on n ≡ false → sum_of (n + 1) ≡ sum_of n
  sum_off e = let m = more ∙ ap (λ (b : Bool). sum_of n + sum_by f (if b then n ∷ [] else [])) e in omega (arith, m)

-- what passes adds up to no more than all
filtered_le : (f : ℕ → ℕ) (on : ℕ → Bool) (ns : List ℕ) → sum_by f (filter on ns) ≤ sum_by f ns
filtered_le f on [] = omega arith
filtered_le f on (n ∷ ns) = by (on n) (filtered_le f on ns)
  where
    by : (b : Bool) → sum_by f (filter on ns) ≤ sum_by f ns → sum_by f (if b then n ∷ filter on ns else filter on ns) ≤ sum_by f (n ∷ ns)
    by true r = let x = sum_by-cons f n ns in let y = sum_by-cons f n (filter on ns) in omega (arith, r, x, y)
    by false r = let x = sum_by-cons f n ns in omega (arith, r, x)

shifted : (f : ℕ → ℕ) (a m : ℕ) → sum_by f (range_with_len (a + 1) m) ≡ sum_by (λ c. f (c + 1)) (range_with_len a m)
shifted f a zero = refl
shifted f a (suc m) =
    let x = sum_by-cons f (a + 1) (range_with_len (a + 1 + 1) m) in
    let y = sum_by-cons (λ c. f (c + 1)) a (range_with_len (a + 1) m) in
    x ∙ (ap (λ (k : ℕ). f (a + 1) + k) (shifted f (a + 1) m) ∙ sym y)

same_terms : (f g : ℕ → ℕ) (ns : List ℕ) → ((n : ℕ) → f n ≡ g n) → sum_by f ns ≡ sum_by g ns
same_terms f g [] e = refl
same_terms f g (n ∷ ns) e = sum_by-cons f n ns ∙ ((λ i. e n i + same_terms f g ns e i) ∙ sym (sum_by-cons g n ns))

all_lists : (xss : List (List Item)) → sum_by (λ c. length (get_or xss c [])) (range_with_len 0 (length xss)) ≡ sum_by (λ (xs : List Item). length xs) xss
all_lists [] = refl
all_lists (xs ∷ xss) =
    let x = sum_by-cons (λ c. length (get_or (xs ∷ xss) c [])) 0 (range_with_len 1 (length xss)) in
    let y = sum_by-cons (λ (l : List Item). length l) xs xss in
    let z : 0 + 1 ≡ 1 = refl in
    let s = shifted (λ c. length (get_or (xs ∷ xss) c [])) 0 (length xss) in
    let t = same_terms (λ c. length (get_or (xs ∷ xss) (c + 1) [])) (λ c. length (get_or xss c [])) (range_with_len 0 (length xss)) (λ n. let e : n + 1 ≡ suc n = omega arith in ap (λ (k : ℕ). length (get_or (xs ∷ xss) k [])) e) in
    let r = all_lists xss in
    omega (arith, x, y, s, t, r)

part_le : (f : ℕ → ℕ) (a m n : ℕ) → m ≤ n → sum_by f (range_with_len a m) ≤ sum_by f (range_with_len a n)
part_le f a zero n le = omega arith
part_le f a (suc m) zero le = absurd (let no : ⊥ = omega (arith, le) in no)
part_le f a (suc m) (suc n) le =
    let r = part_le f (a + 1) m n (omega (arith, le)) in
    let x = sum_by-cons f a (range_with_len (a + 1) m) in
    let y = sum_by-cons f a (range_with_len (a + 1) n) in
    omega (arith, r, x, y)

-- connections of a plan add up to no more than all items, where each adds at most its items
module _ (p : PlanOf) (listed : length p.items ≡ length p.tuples) (on : ℕ → Bool) (m : ℕ) (le : m ≤ length p.tuples) where
  pub at_most : (f : ℕ → ℕ) → ((c : ℕ) → f c ≤ length (items_in p c)) → sum_of f on 0 m ≤ items_together p
  at_most f each =
      let a = filtered_le f on (range_with_len 0 m) in
      let b = sum_by-le-sum_by f (λ c. length (items_in p c)) (range_with_len 0 m) each in
      let d = part_le (λ c. length (items_in p c)) 0 m (length p.tuples) le in
      let e = ap (λ (n : ℕ). sum_by (λ c. length (items_in p c)) (range_with_len 0 n)) (sym listed) ∙ all_lists p.items in
      omega (arith, a, b, d, e)

  pub twice_at_most : (f g : ℕ → ℕ) → ((c : ℕ) → f c ≤ length (items_in p c)) → ((c : ℕ) → g c ≤ length (items_in p c)) → sum_of (λ c. f c + g c) on 0 m ≤ 2 * items_together p
  twice_at_most f g each other =
      let s = parts (filter on (range_with_len 0 m)) in
      let a = at_most f each in
      let b = at_most g other in
      omega (arith, s, a, b)
    where
      parts : (ns : List ℕ) → sum_by (λ n. f n + g n) ns ≡ sum_by f ns + sum_by g ns
      parts [] = omega arith
      parts (n ∷ ns) = let r = parts ns in let x = sum_by-cons (λ n. f n + g n) n ns in let y = sum_by-cons f n ns in let z = sum_by-cons g n ns in omega (arith, r, x, y, z)

-- one call more
pub calls_next : {X : Type 0} (f : X → ℕ) (xs : List X) (k : ℕ) (x : X) → slice_get xs k ≡ Some x → sum_by f (take (k + 1) xs) ≡ sum_by f (take k xs) + f x
calls_next f xs k x e =
    let c = sum_by-cons f x [] in
    let s = ap (sum_by f) (take_one xs k x e) ∙ sum_by-append f (take k xs) (x ∷ []) in
    omega (arith, s, c)

-- each call of a thread is on a connection that there is
pub on_known : (calls : CallLists) (n j k : ℕ) (x : ℕ × Call) → All (λ call. call.0 < n) (all_calls calls) → call_at calls j k ≡ Some x → x.0 < n
on_known calls n j k x all e = All-contains (λ (call : ℕ × ℕ × ℕ). call.0 < n) (all_calls calls) (x.0, j, k) all (call_is_named calls x.0 j k x.1 e)

-- one quota more
pub pairs_more : (qs : List Quota) (q : Quota) → pairs (qs ++ q ∷ []) ≡ pairs qs ++ (q.feeds, q.asks) ∷ []
pairs_more qs q = map-append (λ (q : Quota). (q.feeds, q.asks)) qs (q ∷ [])

pub feeds_more : (qs : List (ℕ × ℕ)) (q : ℕ × ℕ) → feed_quotas (qs ++ q ∷ []) ≡ feed_quotas qs + q.0
feeds_more [] q = omega arith
feeds_more (x ∷ qs) q = let r = feeds_more qs q in omega (arith, r)

pub asks_more : (qs : List (ℕ × ℕ)) (q : ℕ × ℕ) → ask_quotas (qs ++ q ∷ []) ≡ ask_quotas qs + q.1
asks_more [] q = omega arith
asks_more (x ∷ qs) q = let r = asks_more qs q in omega (arith, r)

-- what the code counts, by the numbers that it has from its setup and its plan
pub left_as : {s t p r i n l : ℕ} (q c : ℕ) → s ≡ t → p ≡ r → i ≡ n → l ≡ times_leaving s p q c i → l ≡ times_leaving t r q c n
left_as q c a b d e = e ∙ (λ j. times_leaving (a j) (b j) q c (d j))

pub come_as : {s t p r i n l : ℕ} (q c : ℕ) → s ≡ t → p ≡ r → i ≡ n → l ≡ times_coming s p q c i → l ≡ times_coming t r q c n
come_as q c a b d e = e ∙ (λ j. times_coming (a j) (b j) q c (d j))

pub fed_as : {s t p r i n l : ℕ} (q c : ℕ) → s ≡ t → p ≡ r → i ≡ n → l ≡ feeds_at s p q c i → l ≡ feeds_at t r q c n
fed_as q c a b d e = e ∙ (λ j. feeds_at (a j) (b j) q c (d j))

-- what one more connection adds fits, and so does the whole
module _ (p : PlanOf) (few : items_together p ≤ most_ring_feeds) (listed : length p.items ≡ length p.tuples) (s spread q rings r : ℕ) where
  abbrev pub fed : ℕ → ℕ
  fed c = feeds_at s spread q c (length (items_in p c))

  abbrev pub left : ℕ → ℕ
  left c = times_leaving s spread q c (length (items_in p c))

  abbrev pub come : ℕ → ℕ
  come c = times_coming s spread q c (length (items_in p c))

  fed_most : (c : ℕ) → fed c ≤ length (items_in p c)
  fed_most c = tally_most (λ n. home s spread c n == q) (length (items_in p c))

  left_most : (c : ℕ) → left c ≤ length (items_in p c)
  left_most c = let t = tally_most (leaves_after s spread q c) (length (items_in p c) - 1) in omega (arith, t)

  come_most : (c : ℕ) → come c ≤ length (items_in p c)
  come_most c = let t = tally_most (comes_after s spread q c) (length (items_in p c) - 1) in omega (arith, t)

  pub few_feeds : (m : ℕ) → m ≤ length p.tuples → sum_of fed (λ c. c % rings == r) 0 m ≤ most_ring_feeds
  few_feeds m le = let a = at_most p listed (λ c. c % rings == r) m le fed fed_most in omega (arith, a, few)

  pub few_asks : (m : ℕ) → m ≤ length p.tuples → sum_of (λ c. left c + come c) (λ c. c % rings == r) 0 m ≤ most_ring_asks
  few_asks m le = let a = twice_at_most p listed (λ c. c % rings == r) m le left come left_most come_most in omega (arith, a, few)

-- one quota more, and what it adds
module _ (old new : List Quota) (q : Quota) (pushed : new ≡ old ++ q ∷ []) where
  pub pairs_next : pairs new ≡ pairs old ++ (q.feeds, q.asks) ∷ []
  pairs_next = ap pairs pushed ∙ pairs_more old q

  pub feeds_next : feed_quotas (pairs new) ≡ feed_quotas (pairs old) + q.feeds
  feeds_next = ap feed_quotas pairs_next ∙ feeds_more (pairs old) (q.feeds, q.asks)

  pub asks_next : ask_quotas (pairs new) ≡ ask_quotas (pairs old) + q.asks
  asks_next = ap ask_quotas pairs_next ∙ asks_more (pairs old) (q.feeds, q.asks)

  -- where those so far are the first values of a list
  pub next_value : (xs : List (ℕ × ℕ)) (k : ℕ) → pairs old ≡ take k xs → slice_get xs k ≡ Some (q.feeds, q.asks) → pairs new ≡ take (k + 1) xs
  next_value xs k so is = pairs_next ∙ (ap (λ (l : List (ℕ × ℕ)). l ++ (q.feeds, q.asks) ∷ []) so ∙ sym (take_one xs k (q.feeds, q.asks) is))

-- the sum of the first quotas, and one more
pub sum_next : (xs : List (ℕ × ℕ)) (k : ℕ) (x : ℕ × ℕ) → slice_get xs k ≡ Some x → all_quotas (take (k + 1) xs) ≡ all_quotas (take k xs) + x.0 + x.1
sum_next xs k x is =
    let one = ap all_quotas (take_one xs k x is) in
    omega (arith, one, all_both (take k xs ++ x ∷ []), all_both (take k xs), feeds_more (take k xs) x, asks_more (take k xs) x)

-- one number more
pub range_next : (f : ℕ → ℕ) (n : ℕ) → sum_by f (range_with_len 0 (n + 1)) ≡ sum_by f (range_with_len 0 n) + f n
range_next f n =
    let one : n + 1 ≡ suc n = omega arith in
    let e : 0 + n ≡ n = omega arith in
    let last = sum_by-cons f n [] in
    let all = ap (λ (m : ℕ). sum_by f (range_with_len 0 m)) one
    ∙ (ap (sum_by f) (range_more 0 n ∙ ap (λ (m : ℕ). range_with_len 0 n ++ m ∷ []) e) ∙ sum_by-append f (range_with_len 0 n) (n ∷ [])) in
    omega (arith, all, last)

-- the values of so many numbers, and behind them those of so many others
module _ {X : Type 0} (f g : ℕ → X) (n m : ℕ) where
  abbrev both : List X
  both = map f (range_with_len 0 n) ++ map g (range_with_len 0 m)

  pub both_count : length both ≡ n + m
  both_count = omega (arith, length-append (map f (range_with_len 0 n)) (map g (range_with_len 0 m)), length-map-range_with_len f 0 n, length-map-range_with_len g 0 m)

  pub in_front : (i : ℕ) → i < n → slice_get both i ≡ Some (f i)
  in_front i lt =
      let front = map f (range_with_len 0 n) in
      let here : i < length front = omega (arith, lt, length-map-range_with_len f 0 n) in
      let within : i < length both = omega (arith, lt, both_count) in
      slice_get-get_or both i (f i) within
      ∙ ap Some (get_or_append_left front (map g (range_with_len 0 m)) (f i) i here ∙ get_or-map-range_with_len f 0 n i i (f i) lt (omega arith))

  pub behind : (i j : ℕ) → i ≡ n + j → j < m → slice_get both i ≡ Some (g j)
  behind i j e lt =
      let front = map f (range_with_len 0 n) in
      let place : i ≡ length front + j = omega (arith, e, length-map-range_with_len f 0 n) in
      let within : i < length both = omega (arith, e, lt, both_count) in
      slice_get-get_or both i (g j) within
      ∙ ap Some (ap (λ (k : ℕ). get_or both k (g j)) place ∙ (get_or-append-add front (map g (range_with_len 0 m)) j (g j) ∙ get_or-map-range_with_len g 0 m j j (g j) lt (omega arith)))

pub quotas_count : (p : PlanOf) (calls : CallLists) (squeues rings spread q : ℕ) → length (quotas_of p calls squeues rings spread q) ≡ rings + 4
quotas_count p calls squeues rings spread q = both_count (λ r. (ring_feeds p squeues rings spread q r, ring_asks p squeues rings spread q r)) (λ j. (0, caller_asks p calls squeues spread q j)) rings 4
