-- All streams together have few items, at most two for each record; and what holds of every plan.
use Rattle.std.proofs.Common.{◌≡◌, ℕ, ◌+◌, ◌*◌, ◌<◌, ◌≤◌, not, Bool, true, false, List, [], ◌∷◌, suc, length, map, filter, sum_by, Option, Some, None, slice_get, refl, sym, ap, ◌∙◌, arith}
use Rattle.std.specs.List.{AllByRecursion, IsDistinct}
use Rattle.std.proofs.lemmas.List.{length-map}
use Rattle.std.proofs.lemmas.List.Sums.{sum_by-cons}
use Rattle.sq_base.specs.declared.kinds.Tuple.{Tuple}
use Rattle.capture_reader.specs.CaptureFile.{Packet as Captured, last_time}
use Rattle.capture_reader.specs.Limits.{latest_time, most_records}
use Rattle.capture_reader.specs.Outcome.{CaptureFile}
use Rattle.conn_classifier.specs.Connections.{distinct, tuple_eq}
use Rattle.conn_classifier.proofs.Conns.{same}
use Rattle.conn_classifier.proofs.PlanLaw.{all_to, all_take, all_map, all_distinct, same_tuple, times_from, apart_take, apart_distinct}
use Rattle.stream_plan.specs.Limits.{most_streams}
use Rattle.stream_plan.specs.declared.kinds.Arrived.{Arrived}
use Rattle.stream_plan.specs.declared.kinds.Found.{Found}
use Rattle.stream_plan.specs.declared.kinds.Found.TheVariants as found
use Rattle.stream_plan.specs.Streams.{arrivals_of, arrived_from, datagrams_of, is_of, item_count, more_plan_of, of_stream, segments_of, served_in, stream_in, tuple_of, tuples_in}
use Rattle.stream_plan.specs.Sound.{IsMorePlan, IsStream}
use Rattle.stream_plan.proofs.ItemFacts.{length-items}
use Rattle.stream_plan.proofs.StreamFacts.{IsFound, all_found, all_here, length-rising, stream_is}
use Rattle.stream_plan.proofs.StreamSteps.{none_or_all}
use Rattle.stream_plan.proofs.TupleSteps.{few_tuples}

pub apart_tuples : (xs : List Arrived) → IsDistinct tuple_eq (tuples_in xs)
unfolding tuples_in
apart_tuples xs = apart_take most_streams (distinct (map (λ x. tuple_of x.found) xs)) (apart_distinct (map (λ x. tuple_of x.found) xs))

-- what is of another stream is not of this one
elsewhere : (t u : Tuple) (xs : List Arrived) → tuple_eq t u ≡ false → of_stream u (filter (λ x. not (is_of t x)) xs) ≡ of_stream u xs
elsewhere t u [] apart = refl
elsewhere t u (x ∷ xs) apart = by (is_of t x) (is_of u x) refl refl (elsewhere t u xs apart)
  where
    by : (a b : Bool) → is_of t x ≡ a → is_of u x ≡ b → of_stream u (filter (λ x. not (is_of t x)) xs) ≡ of_stream u xs
        → of_stream u (filter (λ x. not (is_of t x)) (x ∷ xs)) ≡ of_stream u (x ∷ xs)
    by true true e f rest =
        let one : tuple_of x.found ≡ t = same (tuple_of x.found) t e in
        let no : true ≡ false = sym f ∙ ap (λ v. tuple_eq v u) one ∙ apart in
        absurd (let bad : ⊥ = cc in bad)
    by true false e f rest = rw (e, f) rest
    by false true e f rest = rw (e, f) (ap (λ l. x ∷ l) rest)
    by false false e f rest = rw (e, f) rest

-- the lists of different streams have no record in common
lists_apart : (ts : List Tuple) (xs : List Arrived) → IsDistinct tuple_eq ts → sum_by (λ t. length (of_stream t xs)) ts ≤ length xs
unfolding IsDistinct
lists_apart [] xs h = omega arith
lists_apart (t ∷ ts) xs h =
    let others = filter (λ x. not (is_of t x)) xs in
    omega (arith, sum_by-cons (λ t. length (of_stream t xs)) t ts, over ts h.0, lists_apart ts others h.1, none_or_all (is_of t) xs)
  where
    over : (us : List Tuple) → AllByRecursion (λ u. tuple_eq t u ≡ false) us
        → sum_by (λ u. length (of_stream u (filter (λ x. not (is_of t x)) xs))) us ≡ sum_by (λ u. length (of_stream u xs)) us
    over [] k = refl
    over (u ∷ us) k = let here = ap length (elsewhere t u xs k.0) in
        omega (arith, here, over us k.1, sum_by-cons (λ u. length (of_stream u (filter (λ x. not (is_of t x)) xs))) u us, sum_by-cons (λ u. length (of_stream u xs)) u us)

-- a stream has at most two items for each of its records
sorts : (xs : List Arrived) → length (datagrams_of xs) + length (segments_of xs) ≡ length xs
sorts [] = refl
sorts (x ∷ xs) = by x.found refl (sorts xs)
  where
    by : (f : Found) → x.found ≡ f → length (datagrams_of xs) + length (segments_of xs) ≡ length xs → length (datagrams_of (x ∷ xs)) + length (segments_of (x ∷ xs)) ≡ length (x ∷ xs)
    by (found.Datagram u) e rest = rw e (omega (arith, rest))
    by (found.Segment s) e rest = rw e (omega (arith, rest))

few_of_one : (last : ℕ) (t : Tuple) (xs : List Arrived) → item_count (stream_in last t xs) ≤ 2 * length xs
few_of_one last t xs = omega (arith, sorts xs, length-rising 0 (datagrams_of xs), length-items last (segments_of xs))

few_of_all : (last : ℕ) (xs : List Arrived) (ts : List Tuple) → sum_by item_count (map (λ t. stream_in last t (of_stream t xs)) ts) ≤ 2 * sum_by (λ t. length (of_stream t xs)) ts
few_of_all last xs [] = omega arith
few_of_all last xs (t ∷ ts) =
    omega (
      arith,
      few_of_one last t (of_stream t xs),
      few_of_all last xs ts,
      sum_by-cons (λ t. length (of_stream t xs)) t ts,
      sum_by-cons item_count (stream_in last t (of_stream t xs)) (map (λ t. stream_in last t (of_stream t xs)) ts),
    )

-- each stream has a record
first_here : (x : Arrived) (xs : List Arrived) → 0 < length (of_stream (tuple_of x.found) (x ∷ xs))
first_here x xs = let its = same_tuple (tuple_of x.found) in rw its (omega arith)

one_more : (x : Arrived) (xs : List Arrived) (t : Tuple) → 0 < length (of_stream t xs) → 0 < length (of_stream t (x ∷ xs))
one_more x xs t h = by (is_of t x) refl
  where
    by : (b : Bool) → is_of t x ≡ b → 0 < length (of_stream t (x ∷ xs))
    by true e = rw e (omega arith)
    by false e = rw e h

each_here : (xs : List Arrived) → AllByRecursion (λ t. 0 < length (of_stream t xs)) (map (λ x. tuple_of x.found) xs)
each_here [] = tt
each_here (x ∷ xs) = (first_here x xs, all_to _ _ (one_more x xs) (map (λ x. tuple_of x.found) xs) (each_here xs))

all_some : (xs : List Arrived) → AllByRecursion (λ t. 0 < length (of_stream t xs)) (tuples_in xs)
unfolding tuples_in
all_some xs = all_take _ most_streams (distinct (map (λ x. tuple_of x.found) xs)) (all_distinct _ (map (λ x. tuple_of x.found) xs) (each_here xs))

length-arrived : (file : CaptureFile) (n : ℕ) (rs : List Captured) → length (arrived_from file.link n rs) ≤ length rs
length-arrived file n [] = omega arith
length-arrived file n (r ∷ rs) = by (served_in file.link r.body) refl (length-arrived file (suc n) rs)
  where
    by : (o : Option Found) → served_in file.link r.body ≡ o → length (arrived_from file.link (suc n) rs) ≤ length rs → length (arrived_from file.link n (r ∷ rs)) ≤ length (r ∷ rs)
    by None e rest = rw e (omega (arith, rest))
    by (Some f) e rest = rw e (omega (arith, rest))

pub is_more_plan : (file : CaptureFile) → length file.packets ≤ most_records → last_time file.packets ≤ latest_time → IsMorePlan (more_plan_of file)
unfolding more_plan_of
is_more_plan file few most =
    let xs = arrivals_of file in
    let last = last_time file.packets in
    let all : AllByRecursion (IsFound file last) xs =
    all_found file last 0 file.packets (omega arith) (λ k. let e : 0 + k ≡ k = omega arith in ap (slice_get file.packets) e) (times_from 0 file.packets) in
    record {
      few = omega (arith, length-map (tuples_in xs) (λ t. stream_in last t (of_stream t xs)), few_tuples xs);
      together = omega (arith, few_of_all last xs (tuples_in xs), lists_apart (tuples_in xs) xs (apart_tuples xs), length-arrived file 0 file.packets, few);
      each = all_map (IsStream file) (λ t. stream_in last t (of_stream t xs)) (tuples_in xs)
          (all_to _ _ (λ t some. stream_is file last t (of_stream t xs) some most (all_here file last t xs all)) (tuples_in xs) (all_some xs));
    }
