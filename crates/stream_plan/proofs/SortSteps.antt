-- What is sorted out, one of what arrived further.
use Rattle.std.proofs.Common.{◌≡◌, ℕ, ◌+◌, ◌-◌, ◌<◌, ◌≤◌, ◌||◌, nat_le, max, Bool, true, false, List, [], ◌∷◌, ◌++◌, zero, suc, length, map, take, set, get_or, slice_get, position, Some, None, refl, sym, ap, ◌∙◌, arith, if◌then◌else◌, append-nil, filter}
use Rattle.std.specs.List.{list_any, position_from, AllByRecursion, IsDistinct}
use Rattle.std.proofs.lemmas.Bool.Decides.{nat_tests}
use Rattle.std.proofs.lemmas.Iterator.Adapters.{position_from-zero}
use Rattle.std.proofs.lemmas.List.{length-append, length-map, length-take, map-append, take_all}
use Rattle.std.proofs.lemmas.List.Folds.{list_any-append}
use Rattle.sq_base.specs.declared.kinds.Tuple.{Tuple}
use Rattle.conn_classifier.specs.Connections.{distinct, tuple_eq}
use Rattle.conn_classifier.proofs.Conns.{push_none, push_some, same}
use Rattle.conn_classifier.proofs.Distinct.{filter_push}
use Rattle.conn_classifier.proofs.OneKey.{none_any, some_any}
use Rattle.conn_classifier.proofs.Joining.{all_listed}
use Rattle.stream_plan.specs.Limits.{most_streams}
use Rattle.stream_plan.specs.declared.kinds.Arrived.{Arrived}
use Rattle.stream_plan.specs.declared.kinds.ServedDatagram.{ServedDatagram}
use Rattle.stream_plan.specs.declared.kinds.Found.{Found}
use Rattle.stream_plan.specs.declared.kinds.Found.TheVariants as found
use Rattle.stream_plan.specs.Streams.{StreamOf, as_datagram, as_segment, datagrams_of, is_among, is_of, of_stream, rising, segments_of, tuple_of, tuples_in}
use Rattle.stream_plan.specs.Sorting.{SortedOf, entered, heard, heard_in, last_at, new_stream, sorted_of, sorted_seen, with_stream}
use Rattle.stream_plan.proofs.Together.{apart_tuples}
use Rattle.stream_plan.proofs.TupleSteps.{few_tuples, tuples_full, tuples_some}

-- the time of the last datagram
last_more : (from : ℕ) (d : ServedDatagram) (ds : List ServedDatagram) (e : ServedDatagram) → slice_get (d ∷ ds) (length ds) ≡ Some e → last_at from (d ∷ ds) ≡ e.at
last_more from d [] e h = let is : d ≡ e = cc in ap (λ (z : ServedDatagram). z.at) is
last_more from d (x ∷ ds) e h = last_more d.at x ds e h

pub last_some : (ds : List ServedDatagram) (e : ServedDatagram) → slice_get ds (length ds - 1) ≡ Some e → last_at 0 ds ≡ e.at
last_some [] e h = absurd (let no : ⊥ = cc in no)
last_some (d ∷ ds) e h = let one : length ds ≡ suc (length ds) - 1 = omega arith in last_more 0 d ds e (ap (slice_get (d ∷ ds)) one ∙ h)

none_last : (d : ServedDatagram) (ds : List ServedDatagram) → slice_get (d ∷ ds) (length ds) ≡ None → ⊥
none_last d [] h = cc
none_last d (x ∷ ds) h = none_last x ds h

pub last_none : (ds : List ServedDatagram) → slice_get ds (length ds - 1) ≡ None → last_at 0 ds ≡ 0
last_none [] h = refl
last_none (d ∷ ds) h = let one : length ds ≡ suc (length ds) - 1 = omega arith in absurd (none_last d ds (ap (slice_get (d ∷ ds)) one ∙ h))

rising_push : (from : ℕ) (ds : List ServedDatagram) (d : ServedDatagram) → rising from (ds ++ d ∷ []) ≡ rising from ds ++ record d { at = max (last_at from (rising from ds)) d.at } ∷ []
rising_push from [] d = refl
rising_push from (e ∷ ds) d = ap (λ l. record e { at = max from e.at } ∷ l) (rising_push (max from e.at) ds d)

-- a stream's own, one of its own further
heard_push : (t : Tuple) (xs : List Arrived) (x : Arrived) → heard_in t (xs ++ x ∷ []) ≡ heard x.rec x.at x.found (heard_in t xs)
heard_push t xs x = by x.found refl
  where
    by : (f : Found) → x.found ≡ f → heard_in t (xs ++ x ∷ []) ≡ heard x.rec x.at f (heard_in t xs)
    by (found.Datagram u) e =
        let all = push_some (λ (y : Arrived). as_datagram y.rec y.at y.found) xs x (record { at = x.at; rec = x.rec; udp = u }) (ap (as_datagram x.rec x.at) e) in
        ap (λ l. record { tuple = t; datagrams = l; items = [] }) (ap (rising 0) all ∙ rising_push 0 (datagrams_of xs) (record { at = x.at; rec = x.rec; udp = u }))
    by (found.Segment g) e =
        ap (λ l. record { tuple = t; datagrams = rising 0 l; items = [] }) (push_none (λ (y : Arrived). as_datagram y.rec y.at y.found) xs x (ap (as_datagram x.rec x.at) e))

entered_push : (xs : List Arrived) (x : Arrived) → segments_of (xs ++ x ∷ []) ≡ entered x.rec x.at x.found (segments_of xs)
entered_push xs x = by x.found refl
  where
    by : (f : Found) → x.found ≡ f → segments_of (xs ++ x ∷ []) ≡ entered x.rec x.at f (segments_of xs)
    by (found.Datagram u) e = push_none (λ (y : Arrived). as_segment y.rec y.at y.found) xs x (ap (as_segment x.rec x.at) e)
    by (found.Segment g) e = push_some (λ (y : Arrived). as_segment y.rec y.at y.found) xs x (record { rec = x.rec; at = x.at; seg = g }) (ap (as_segment x.rec x.at) e)

-- something for each key, where that of the one key that passes changes
module _ {K X : Type 0} (p : K → Bool) (f g : K → X) (h : X → X) (d : X) (off : (t : K) → p t ≡ false → g t ≡ f t) (on : (t : K) → p t ≡ true → g t ≡ h (f t)) where
  all_off : (ts : List K) → AllByRecursion (λ t. p t ≡ false) ts → map g ts ≡ map f ts
  all_off [] q = refl
  all_off (t ∷ ts) q = (λ k. off t q.0 k ∷ all_off ts q.1 k)

  none_from : (i : ℕ) (ts : List K) → position_from p i ts ≡ None → AllByRecursion (λ t. p t ≡ false) ts
  none_from i [] e = tt
  none_from i (t ∷ ts) e = by (p t) refl e (none_from (i + 1) ts)
    where
      by : (b : Bool) → p t ≡ b → position_from p i (t ∷ ts) ≡ None → (position_from p (i + 1) ts ≡ None → AllByRecursion (λ t. p t ≡ false) ts)
          → (p t ≡ false) × AllByRecursion (λ t. p t ≡ false) ts
      by true q now rest = let bad : Some i ≡ None = rw q at now in absurd (let no : ⊥ = cc in no)
      by false q now rest = (q, rest (rw q at now))

  unchanged : (ts : List K) → position_from p 0 ts ≡ None → map g ts ≡ map f ts
  unchanged ts e = all_off ts (none_from 0 ts e)

  record Changes (i j : ℕ) (ts : List K) : Type 0 where
    after : i ≤ j
    within : j < i + length ts
    one : map g ts ≡ set (map f ts) (j - i) (h (get_or (map f ts) (j - i) d))

  module _ (eq : K → K → Bool) (apart : (t u : K) → p t ≡ true → eq t u ≡ false → p u ≡ false) where
    apart_all : (t : K) → p t ≡ true → (ts : List K) → AllByRecursion (λ u. eq t u ≡ false) ts → AllByRecursion (λ u. p u ≡ false) ts
    apart_all t e [] q = tt
    apart_all t e (u ∷ ts) q = (apart t u e q.0, apart_all t e ts q.1)

    changed_from : (i j : ℕ) (ts : List K) → IsDistinct eq ts → position_from p i ts ≡ Some j → Changes i j ts
    unfolding IsDistinct
    changed_from i j [] a e = absurd (let no : ⊥ = cc in no)
    changed_from i j (t ∷ ts) a e = by (p t) refl e (changed_from (i + 1) j ts a.1)
      where
        by : (b : Bool) → p t ≡ b → position_from p i (t ∷ ts) ≡ Some j → (position_from p (i + 1) ts ≡ Some j → Changes (i + 1) j ts) → Changes i j (t ∷ ts)
        by true q now rest =
            let here : Some i ≡ Some j = rw q at now in
            let is : i ≡ j = cc in
            let none : j - i ≡ 0 = omega (arith, is) in
            record {
              after = omega (arith, is);
              within = omega (arith, is);
              one = (λ k. on t q k ∷ all_off ts (apart_all t q ts a.0) k) ∙ ap (λ n. set (map f (t ∷ ts)) n (h (get_or (map f (t ∷ ts)) n d))) (sym none);
            }
        by false q now rest =
            let r = rest (rw q at now) in
            let next : j - i ≡ suc (j - (i + 1)) = omega (arith, r.after) in
            record {
              after = omega (arith, r.after);
              within = omega (arith, r.within);
              one = (λ k. off t q k ∷ r.one k) ∙ ap (λ n. set (map f (t ∷ ts)) n (h (get_or (map f (t ∷ ts)) n d))) (sym next);
            }

    record ChangesAt (c : ℕ) (ts : List K) : Type 0 where
      within : c < length ts
      one : map g ts ≡ set (map f ts) c (h (get_or (map f ts) c d))

    changed : (c : ℕ) (ts : List K) → IsDistinct eq ts → position_from p 0 ts ≡ Some c → ChangesAt c ts
    changed c ts a e =
        let r = changed_from 0 c ts a e in
        let here : c - 0 ≡ c = omega arith in
        record { within = omega (arith, r.within); one = r.one ∙ ap (λ n. set (map f ts) n (h (get_or (map f ts) n d))) here }

-- how many pass, one element further
count_true : {X : Type 0} (p : X → Bool) (xs : List X) (x : X) → p x ≡ true → length (filter p (xs ++ x ∷ [])) ≡ length (filter p xs) + 1
count_true p xs x e = ap length (filter_push p xs x ∙ ap (λ b. filter p xs ++ (if b then x ∷ [] else [])) e) ∙ length-append (filter p xs) (x ∷ [])

count_false : {X : Type 0} (p : X → Bool) (xs : List X) (x : X) → p x ≡ false → length (filter p (xs ++ x ∷ [])) ≡ length (filter p xs)
count_false p xs x e = ap length (filter_push p xs x ∙ ap (λ b. filter p xs ++ (if b then x ∷ [] else [])) e ∙ append-nil (filter p xs))

-- one more of what arrived, where the streams stay
module _ (ts : List Tuple) (xs : List Arrived) (x : Arrived) where
  of_off : (t : Tuple) → is_of t x ≡ false → of_stream t (xs ++ x ∷ []) ≡ of_stream t xs
  of_off t e = filter_push (is_of t) xs x ∙ ap (λ b. of_stream t xs ++ (if b then x ∷ [] else [])) e ∙ append-nil (of_stream t xs)

  of_on : (t : Tuple) → is_of t x ≡ true → of_stream t (xs ++ x ∷ []) ≡ of_stream t xs ++ x ∷ []
  of_on t e = filter_push (is_of t) xs x ∙ ap (λ b. of_stream t xs ++ (if b then x ∷ [] else [])) e

  heard_off : (t : Tuple) → tuple_eq (tuple_of x.found) t ≡ false → heard_in t (of_stream t (xs ++ x ∷ [])) ≡ heard_in t (of_stream t xs)
  heard_off t e = ap (heard_in t) (of_off t e)

  heard_on : (t : Tuple) → tuple_eq (tuple_of x.found) t ≡ true → heard_in t (of_stream t (xs ++ x ∷ [])) ≡ heard x.rec x.at x.found (heard_in t (of_stream t xs))
  heard_on t e = ap (heard_in t) (of_on t e) ∙ heard_push t (of_stream t xs) x

  entered_off : (t : Tuple) → tuple_eq (tuple_of x.found) t ≡ false → segments_of (of_stream t (xs ++ x ∷ [])) ≡ segments_of (of_stream t xs)
  entered_off t e = ap segments_of (of_off t e)

  entered_on : (t : Tuple) → tuple_eq (tuple_of x.found) t ≡ true → segments_of (of_stream t (xs ++ x ∷ [])) ≡ entered x.rec x.at x.found (segments_of (of_stream t xs))
  entered_on t e = ap segments_of (of_on t e) ∙ entered_push (of_stream t xs) x

  at_zero : position_from (tuple_eq (tuple_of x.found)) 0 ts ≡ position (tuple_eq (tuple_of x.found)) ts
  at_zero = sym (position_from-zero (tuple_eq (tuple_of x.found)) ts)

  passed : position (tuple_eq (tuple_of x.found)) ts ≡ None → sorted_of ts (xs ++ x ∷ []) ≡ record (sorted_of ts xs) { arrived = length xs + 1 }
  passed e =
      let none = at_zero ∙ e in
      let streams = unchanged (tuple_eq (tuple_of x.found)) (λ t. heard_in t (of_stream t xs)) (λ t. heard_in t (of_stream t (xs ++ x ∷ []))) (heard x.rec x.at x.found) (new_stream (tuple_of x.found)) heard_off heard_on ts none in
      let segments = unchanged (tuple_eq (tuple_of x.found)) (λ t. segments_of (of_stream t xs)) (λ t. segments_of (of_stream t (xs ++ x ∷ []))) (entered x.rec x.at x.found) [] entered_off entered_on ts none in
      let served = count_false (is_among ts) xs x (none_any {X = ℕ} (tuple_eq (tuple_of x.found)) (λ t. []) 0 0 ts none) in
      let all = length-append xs (x ∷ []) in
      (λ k. record { tuples = ts; streams = streams k; segments = segments k; served = served k; arrived = all k })

  added : (c : ℕ) (d : StreamOf) → IsDistinct tuple_eq ts → position (tuple_eq (tuple_of x.found)) ts ≡ Some c → sorted_of ts (xs ++ x ∷ []) ≡ record (sorted_of ts xs) {
    streams = set (sorted_of ts xs).streams c (heard x.rec x.at x.found (get_or (sorted_of ts xs).streams c d));
    segments = set (sorted_of ts xs).segments c (entered x.rec x.at x.found (get_or (sorted_of ts xs).segments c []));
    served = (sorted_of ts xs).served + 1;
    arrived = length xs + 1;
  }
  added c d a e =
      let here = at_zero ∙ e in
      let streams = changed (tuple_eq (tuple_of x.found)) (λ t. heard_in t (of_stream t xs)) (λ t. heard_in t (of_stream t (xs ++ x ∷ []))) (heard x.rec x.at x.found) d heard_off heard_on tuple_eq apart c ts a here in
      let segments = changed (tuple_eq (tuple_of x.found)) (λ t. segments_of (of_stream t xs)) (λ t. segments_of (of_stream t (xs ++ x ∷ []))) (entered x.rec x.at x.found) [] entered_off entered_on tuple_eq apart c ts a here in
      let served = count_true (is_among ts) xs x (some_any {X = ℕ} (tuple_eq (tuple_of x.found)) (λ t. []) 0 0 c ts here) in
      let all = length-append xs (x ∷ []) in
      (λ k. record { tuples = ts; streams = streams.one k; segments = segments.one k; served = served k; arrived = all k })
    where
      apart : (t u : Tuple) → tuple_eq (tuple_of x.found) t ≡ true → tuple_eq t u ≡ false → tuple_eq (tuple_of x.found) u ≡ false
      apart t u q h = ap (λ v. tuple_eq v u) (same (tuple_of x.found) t q) ∙ h

from_tuples : (ds : List Tuple) (xs : List Arrived) → AllByRecursion (λ t. list_any (tuple_eq t) ds ≡ true) (map (λ x. tuple_of x.found) xs) → AllByRecursion (λ x. is_among ds x ≡ true) xs
from_tuples ds [] h = tt
from_tuples ds (x ∷ xs) h = (h.0, from_tuples ds xs h.1)

listed : (xs : List Arrived) → length (tuples_in xs) < most_streams → AllByRecursion (λ x. is_among (tuples_in xs) x ≡ true) xs
unfolding tuples_in
listed xs room =
    let ds = distinct (map (λ x. tuple_of x.found) xs) in
    let short : length ds < most_streams = omega (arith, length-take most_streams ds) in
    let all : take most_streams ds ≡ ds = take_all most_streams ds (omega arith) in
    rw all (from_tuples ds xs (all_listed (map (λ x. tuple_of x.found) xs)))

-- what a pair of ends that is new adds
module _ (ts : List Tuple) (t : Tuple) (new : list_any (tuple_eq t) ts ≡ false) where
  other : (u : Tuple) → list_any (tuple_eq u) ts ≡ true → tuple_eq u t ≡ false
  other u h = by (tuple_eq u t) refl
    where
      by : (b : Bool) → tuple_eq u t ≡ b → tuple_eq u t ≡ false
      by true q = absurd (let both : true ≡ false = sym h ∙ ap (λ v. list_any (tuple_eq v) ts) (same u t q) ∙ new in let no : ⊥ = cc in no)
      by false q = q

  none_of : (xs : List Arrived) → AllByRecursion (λ x. is_among ts x ≡ true) xs → of_stream t xs ≡ []
  none_of [] h = refl
  none_of (x ∷ xs) h = let off = other (tuple_of x.found) h.0 in rw off (none_of xs h.1)

  among_more : (x : Arrived) → is_among ts x ≡ true → is_among (ts ++ t ∷ []) x ≡ true
  among_more x h = list_any-append (tuple_eq (tuple_of x.found)) ts (t ∷ []) ∙ ap (λ b. b || list_any (tuple_eq (tuple_of x.found)) (t ∷ [])) h

  same_served : (xs : List Arrived) → AllByRecursion (λ x. is_among ts x ≡ true) xs → length (filter (is_among ts) xs) ≡ length (filter (is_among (ts ++ t ∷ [])) xs)
  same_served [] h = refl
  same_served (x ∷ xs) h = let more = among_more x h.0 in let is = h.0 in rw (more, is) (ap suc (same_served xs h.1))

  grows : (xs : List Arrived) → AllByRecursion (λ x. is_among ts x ≡ true) xs
      → record (sorted_of ts xs) { tuples = ts ++ t ∷ []; streams = (sorted_of ts xs).streams ++ new_stream t ∷ []; segments = (sorted_of ts xs).segments ++ [] ∷ [] } ≡ sorted_of (ts ++ t ∷ []) xs
  grows xs h =
      let none = none_of xs h in
      let streams = ap (λ l. map (λ u. heard_in u (of_stream u xs)) ts ++ heard_in t l ∷ []) (sym none) ∙ sym (map-append (λ u. heard_in u (of_stream u xs)) ts (t ∷ [])) in
      let segments = ap (λ l. map (λ u. segments_of (of_stream u xs)) ts ++ segments_of l ∷ []) (sym none) ∙ sym (map-append (λ u. segments_of (of_stream u xs)) ts (t ∷ [])) in
      let served = same_served xs h in
      (λ k. record { tuples = ts ++ t ∷ []; streams = streams k; segments = segments k; served = served k; arrived = length xs })

-- what is sorted out so far, with one more pair of ends
module _ (t : Tuple) (s : SortedOf) where
  pub joins_known : list_any (tuple_eq t) s.tuples ≡ true → s ≡ with_stream t s
  joins_known h = by (nat_le most_streams (length s.tuples)) refl
    where
      by : (b : Bool) → nat_le most_streams (length s.tuples) ≡ b → s ≡ with_stream t s
      by true e = rw e refl
      by false e = rw (e, h) refl

  pub joins_full : most_streams ≤ length s.tuples → s ≡ with_stream t s
  joins_full full = let e : nat_le most_streams (length s.tuples) ≡ true = grind (arith, nat_tests, full) in rw e refl

  pub joins_new : length s.tuples < most_streams → list_any (tuple_eq t) s.tuples ≡ false
      → record s { tuples = s.tuples ++ t ∷ []; streams = s.streams ++ new_stream t ∷ []; segments = s.segments ++ [] ∷ [] } ≡ with_stream t s
  joins_new room h = let e : nat_le most_streams (length s.tuples) ≡ false = grind (arith, nat_tests, room) in rw (e, h) refl

-- one more of what arrived
module _ (xs : List Arrived) (x : Arrived) where
  joins : with_stream (tuple_of x.found) (sorted_seen xs) ≡ sorted_of (tuples_in (xs ++ x ∷ [])) xs
  joins = by (nat_le most_streams (length (tuples_in xs))) (list_any (tuple_eq (tuple_of x.found)) (tuples_in xs)) refl refl
    where
      by : (a b : Bool) → nat_le most_streams (length (tuples_in xs)) ≡ a → list_any (tuple_eq (tuple_of x.found)) (tuples_in xs) ≡ b
          → with_stream (tuple_of x.found) (sorted_seen xs) ≡ sorted_of (tuples_in (xs ++ x ∷ [])) xs
      by true b f g =
          let full : length (tuples_in xs) < most_streams → ⊥ = λ room. grind (arith, nat_tests, f, room) in
          rw f (ap (λ ts. sorted_of ts xs) (sym (tuples_full xs x full)))
      by false true f g =
          let room : length (tuples_in xs) < most_streams = grind (arith, nat_tests, f) in
          rw (f, g) (ap (λ ts. sorted_of ts xs) (sym (tuples_some xs x room ∙ rw g refl)))
      by false false f g =
          let room : length (tuples_in xs) < most_streams = grind (arith, nat_tests, f) in
          rw (f, g) (grows (tuples_in xs) (tuple_of x.found) g xs (listed xs room) ∙ ap (λ ts. sorted_of ts xs) (sym (tuples_some xs x room ∙ rw g refl)))

  module _ (s after : SortedOf) (so_far : s ≡ sorted_seen xs) (joined : after ≡ with_stream (tuple_of x.found) s) where
    whole : after ≡ sorted_of (tuples_in (xs ++ x ∷ [])) xs
    whole = joined ∙ ap (with_stream (tuple_of x.found)) so_far ∙ joins

    pub unfit : position (tuple_eq (tuple_of x.found)) after.tuples ≡ None → record after { arrived = after.arrived + 1 } ≡ sorted_seen (xs ++ x ∷ [])
    unfit e =
        (λ k. record (whole k) { arrived = (whole k).arrived + 1 })
        ∙ sym (passed (tuples_in (xs ++ x ∷ [])) xs x (ap (λ (r : SortedOf). position (tuple_eq (tuple_of x.found)) r.tuples) (sym whole) ∙ e))

    pub fit : (c : ℕ) (d : StreamOf) → position (tuple_eq (tuple_of x.found)) after.tuples ≡ Some c → record after {
      streams = set after.streams c (heard x.rec x.at x.found (get_or after.streams c d));
      segments = set after.segments c (entered x.rec x.at x.found (get_or after.segments c []));
      served = after.served + 1;
      arrived = after.arrived + 1;
    } ≡ sorted_seen (xs ++ x ∷ [])
    fit c d e =
        (λ k. record (whole k) {
          streams = set (whole k).streams c (heard x.rec x.at x.found (get_or (whole k).streams c d));
          segments = set (whole k).segments c (entered x.rec x.at x.found (get_or (whole k).segments c []));
          served = (whole k).served + 1;
          arrived = (whole k).arrived + 1;
        })
        ∙ sym (added (tuples_in (xs ++ x ∷ [])) xs x c d (apart_tuples (xs ++ x ∷ [])) (ap (λ (r : SortedOf). position (tuple_eq (tuple_of x.found)) r.tuples) (sym whole) ∙ e))

pub few_served : (ts : List Tuple) (xs : List Arrived) → (sorted_of ts xs).served ≤ length xs
few_served ts [] = omega arith
few_served ts (x ∷ xs) = by (is_among ts x) refl (few_served ts xs)
  where
    by : (b : Bool) → is_among ts x ≡ b → length (filter (is_among ts) xs) ≤ length xs → length (filter (is_among ts) (x ∷ xs)) ≤ length (x ∷ xs)
    by true e rest = rw e (omega (arith, rest))
    by false e rest = rw e (omega (arith, rest))

-- what holds of all that is sorted out
module _ (s : SortedOf) (xs : List Arrived) (so_far : s ≡ sorted_seen xs) where
  pub few_here : length s.tuples ≤ most_streams
  few_here = omega (arith, ap (λ (r : SortedOf). length r.tuples) so_far, few_tuples xs)

  pub even_here : length s.streams ≡ length s.tuples
  even_here = ap (λ (r : SortedOf). length r.streams) so_far ∙ length-map (tuples_in xs) (λ t. heard_in t (of_stream t xs)) ∙ ap (λ (r : SortedOf). length r.tuples) (sym so_far)

  pub both_here : length s.segments ≡ length s.tuples
  both_here = ap (λ (r : SortedOf). length r.segments) so_far ∙ length-map (tuples_in xs) (λ t. segments_of (of_stream t xs)) ∙ ap (λ (r : SortedOf). length r.tuples) (sym so_far)

  pub served_here : s.served ≤ s.arrived
  served_here = omega (arith, ap (λ (r : SortedOf). r.served) so_far, ap (λ (r : SortedOf). r.arrived) so_far, few_served (tuples_in xs) xs)

-- nothing sorted yet
pub starts : record { tuples = []; streams = []; segments = []; served = 0; arrived = 0 } ≡ sorted_seen []
unfolding tuples_in
starts = refl

-- an element that is there, whatever stands for one that isn't
pub same_at : {X : Type 0} (xs : List X) (i : ℕ) (d e : X) → i < length xs → get_or xs i d ≡ get_or xs i e
same_at [] i d e lt = absurd (let no : ⊥ = omega (arith, lt) in no)
same_at (x ∷ xs) zero d e lt = refl
same_at (x ∷ xs) (suc i) d e lt = same_at xs i d e (omega (arith, lt))
