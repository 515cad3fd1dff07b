-- The items of the streams, one stream further, and the parts that are made one after another.
use Rattle.std.proofs.Common.{◌≡◌, ℕ, ◌+◌, ◌-◌, ◌<◌, not, Bool, true, false, List, [], ◌∷◌, zero, suc, length, map, take, set, get_or, refl, sym, ap, ◌∙◌, arith, filter}
use Rattle.sq_base.specs.declared.kinds.Tuple.{Tuple}
use Rattle.capture_reader.specs.Outcome.{CaptureFile}
use Rattle.capture_reader.specs.CaptureFile.{last_time}
use Rattle.conn_classifier.specs.Items.{items_of}
use Rattle.conn_classifier.specs.declared.kinds.Arrival.{Arrival}
use Rattle.stream_plan.specs.declared.kinds.Arrived.{Arrived}
use Rattle.stream_plan.specs.Streams.{StreamOf, arrivals_of, is_among, more_plan_of, of_stream, segments_of, stream_in, tuples_in}
use Rattle.stream_plan.specs.Sorting.{SortedOf, filled, heard_in, sorted_seen}

pub none_filled : (last : ℕ) (ss : List StreamOf) → filled last ss [] ≡ ss
none_filled last [] = refl
none_filled last (s ∷ ss) = refl

pub length-filled : (last : ℕ) (ss : List StreamOf) (ls : List (List Arrival)) → length (filled last ss ls) ≡ length ss
length-filled last [] ls = refl
length-filled last (s ∷ ss) [] = refl
length-filled last (s ∷ ss) (l ∷ ls) = ap suc (length-filled last ss ls)

-- one stream more gets its items
one_filled : (last : ℕ) (ss : List StreamOf) (ls : List (List Arrival)) (c : ℕ) (d : StreamOf) (l : List Arrival) → c < length ss → c < length ls → l ≡ get_or ls c []
    → set (filled last ss (take c ls)) c (record (get_or (filled last ss (take c ls)) c d) { items = items_of last l }) ≡ filled last ss (take (suc c) ls)
one_filled last [] ls c d l a b e = absurd (let no : ⊥ = omega (arith, a) in no)
one_filled last (s ∷ ss) [] c d l a b e = absurd (let no : ⊥ = omega (arith, b) in no)
one_filled last (s ∷ ss) (k ∷ ls) zero d l a b e = (λ j. record s { items = items_of last (e j) } ∷ sym (none_filled last ss) j)
one_filled last (s ∷ ss) (k ∷ ls) (suc c) d l a b e = ap (λ r. record s { items = items_of last k } ∷ r) (one_filled last ss ls c d l (omega (arith, a)) (omega (arith, b)) e)

pub fills : {V : Type 0} (f : V → List Arrival) (last : ℕ) (ss now : List StreamOf) (vs : List V) (c : ℕ) (v : V) (d s t : StreamOf)
    → now ≡ filled last ss (take c (map f vs)) → c < length ss → c < length (map f vs) → f v ≡ get_or (map f vs) c [] → s ≡ get_or now c d → t ≡ record s { items = items_of last (f v) }
    → set now c t ≡ filled last ss (take (c + 1) (map f vs))
fills f last ss now vs c v d s t so_far a b here before is =
    let on : suc c ≡ c + 1 = omega arith in
    (λ k. set (so_far k) c ((is ∙ ap (λ (r : StreamOf). record r { items = items_of last (f v) }) (before ∙ ap (λ l. get_or l c d) so_far)) k))
    ∙ one_filled last ss (map f vs) c d (f v) a b here ∙ ap (λ n. filled last ss (take n (map f vs))) on

-- the streams that are sorted out, with their items
all_filled : (last : ℕ) (xs : List Arrived) (ts : List Tuple) → filled last (map (λ t. heard_in t (of_stream t xs)) ts) (map (λ t. segments_of (of_stream t xs)) ts) ≡ map (λ t. stream_in last t (of_stream t xs)) ts
all_filled last xs [] = refl
all_filled last xs (t ∷ ts) = ap (λ l. stream_in last t (of_stream t xs) ∷ l) (all_filled last xs ts)

-- the counts, by what is sorted
pub none_or_all : {X : Type 0} (p : X → Bool) (xs : List X) → length (filter p xs) + length (filter (λ x. not (p x)) xs) ≡ length xs
none_or_all p [] = refl
none_or_all p (x ∷ xs) = by (p x) refl (none_or_all p xs)
  where
    by : (b : Bool) → p x ≡ b → length (filter p xs) + length (filter (λ x. not (p x)) xs) ≡ length xs
        → length (filter p (x ∷ xs)) + length (filter (λ x. not (p x)) (x ∷ xs)) ≡ suc (length xs)
    by true e rest = rw e (omega (arith, rest))
    by false e rest = rw e (omega (arith, rest))

-- the parts that are made one after another are the plan
pub made : (file : CaptureFile) (sorted : SortedOf) (streams : List StreamOf) (served nofit other : ℕ)
    → sorted ≡ sorted_seen (arrivals_of file) → streams ≡ filled (last_time file.packets) sorted.streams sorted.segments
    → served ≡ sorted.served → nofit ≡ sorted.arrived - sorted.served → other ≡ length file.packets - sorted.arrived
    → record { file = file; counts = record { served = served; nofit = nofit; other = other }; streams = streams } ≡ more_plan_of file
unfolding more_plan_of
made file sorted streams served nofit other s m a b c =
    let xs = arrivals_of file in
    let ts = tuples_in xs in
    let first : served ≡ length (filter (is_among ts) xs) = a ∙ ap (λ (s : SortedOf). s.served) s in
    let arrived : sorted.arrived ≡ length xs = ap (λ (s : SortedOf). s.arrived) s in
    let second : nofit ≡ length (filter (λ x. not (is_among ts x)) xs) = omega (arith, b, a, first, arrived, none_or_all (is_among ts) xs) in
    let third : other ≡ length file.packets - length xs = omega (arith, c, arrived) in
    let all = m ∙ ap (λ (s : SortedOf). filled (last_time file.packets) s.streams s.segments) s ∙ all_filled (last_time file.packets) xs ts in
    (λ k. record { file = file; counts = record { served = first k; nofit = second k; other = third k }; streams = all k })
