-- The quotas of rings and threads: how great they are together, and where each stands.
use Rattle.std.proofs.Common.{◌≡◌, ℕ, zero, suc, ◌+◌, ◌*◌, ◌%◌, ◌<◌, ◌≤◌, ◌^◌, ◌==◌, ◌&&◌, Bool, true, false, if◌then◌else◌, Some, List, [], ◌∷◌, ◌++◌, length, map, sum, get_or, slice_get, slice_index, refl, ap, ◌∙◌, arith, eq-eqb}
use Rattle.std.specs.Prelude.{All, take}
use Rattle.std.proofs.lemmas.List.Sums.{sum_by-cons}
use Rattle.std.proofs.lemmas.List.Elements.{All-head, All-tail}
use Rattle.std.proofs.Math.Nat.{mod-lt}
use Rattle.perimeter_core.specs.declared.entries.Feed.{Feed}
use Rattle.perimeter_core.specs.Deeds.{entries, feeds_of}
use Rattle.perimeter_core.specs.History.{feed_quotas}
use Rattle.histories.specs.Quotas.{ask_quotas}
use Rattle.histories.specs.Runs.{brought, count, is_at, is_left_by, leaves}
use Rattle.squeue_pool.specs.Keys.{key_lists, quotas_at}
use Rattle.squeue_pool.proofs.KeyLists.{few_quotas}
use Rattle.squeue_pool.proofs.Rows.{index_few}
use Rattle.squeue_pool.specs.Quotas.{asks_of, quotas_of, thread_quota}

-- where there is one squeue, all feeds are at it
all_at_one : (fs : List Feed) → count (is_at 1 0 0) fs ≡ length fs
all_at_one [] = refl
all_at_one (f ∷ fs) =
    let below : f.c % 1 < 1 = mod-lt f.c (omega arith) in
    let b : (f.c % 1 == 0) ≡ true = eq-eqb (f.c % 1) 0 (omega (arith, below)) in
    rw b (omega (arith, all_at_one fs))

-- a connection leaves a squeue no more often than it has feeds
pub left_few : (squeues spread c q : ℕ) (fs : List Feed) → count (is_left_by squeues spread c q) fs ≤ brought c fs
left_few squeues spread c q [] = omega arith
left_few squeues spread c q (f ∷ fs) = by (f.c == c) (leaves squeues spread q f) (left_few squeues spread c q fs)
  where
    by : (b l : Bool) → count (is_left_by squeues spread c q) fs ≤ brought c fs
        → (if b && l then 1 else 0) + count (is_left_by squeues spread c q) fs ≤ length (if b then f.n ∷ feeds_of c (entries fs) else feeds_of c (entries fs))
    by true true h = omega (arith, h)
    by true false h = omega (arith, h)
    by false l h = omega (arith, h)

-- all feeds together
no_feeds : (counts : List ℕ) (calls : List (List ℕ)) → feed_quotas (map (thread_quota counts) calls) ≡ 0
no_feeds counts [] = refl
no_feeds counts (x ∷ calls) = omega (arith, no_feeds counts calls)

feeds_at_one : (lists : List (List Feed)) (counts : List ℕ) (calls : List (List ℕ)) → feed_quotas (quotas_of lists counts calls) ≡ feed_quotas (quotas_at 1 lists 0)
feeds_at_one [] counts calls = no_feeds counts calls
feeds_at_one (l ∷ lists) counts calls = let rest = feeds_at_one lists counts calls in let all = all_at_one l in omega (arith, rest, all)

pub few_feeds : (rings : ℕ) (counts : List ℕ) (calls : List (List ℕ)) → feed_quotas (quotas_of (key_lists rings counts) counts calls) ≤ sum counts
few_feeds rings counts calls = let e = feeds_at_one (key_lists rings counts) counts calls in let le = few_quotas 1 0 rings counts in omega (arith, e, le)

-- all asks together
thread_few : (counts called : List ℕ) → sum counts ≤ 2 ^ 20 → asks_of counts called ≤ length called * 2097152
thread_few counts [] few = omega arith
thread_few counts (c ∷ called) few =
    let both = sum_by-cons (λ (d : ℕ). 1 + slice_index counts d) c called in
    let one = index_few counts c in
    let rest = thread_few counts called few in
    omega (arith, both, one, rest, few)

threads_few : (counts : List ℕ) (calls : List (List ℕ)) → sum counts ≤ 2 ^ 20 → All (λ called. length called ≤ 2 ^ 12) calls → ask_quotas (map (thread_quota counts) calls) ≤ length calls * 8589934592
threads_few counts [] few short = omega arith
threads_few counts (x ∷ calls) few short =
    let one = thread_few counts x few in
    let here : length x ≤ 2 ^ 12 = All-head (λ (called : List ℕ). length called ≤ 2 ^ 12) x calls short in
    let rest = threads_few counts calls few (All-tail (λ (called : List ℕ). length called ≤ 2 ^ 12) x calls short) in
    omega (arith, one, here, rest)

twice_feeds : (lists : List (List Feed)) (counts : List ℕ) (calls : List (List ℕ))
    → ask_quotas (quotas_of lists counts calls) ≡ 2 * feed_quotas (quotas_of lists counts calls) + ask_quotas (map (thread_quota counts) calls)
twice_feeds [] counts calls = let none = no_feeds counts calls in omega (arith, none)
twice_feeds (l ∷ lists) counts calls = let rest = twice_feeds lists counts calls in omega (arith, rest)

pub few_asks : (rings : ℕ) (counts : List ℕ) (calls : List (List ℕ)) → sum counts ≤ 2 ^ 20 → All (λ called. length called ≤ 2 ^ 12) calls → length calls ≤ 63
    → ask_quotas (quotas_of (key_lists rings counts) counts calls) ≤ 2 ^ 40
few_asks rings counts calls few short callers =
    let twice = twice_feeds (key_lists rings counts) counts calls in
    let feeds = few_feeds rings counts calls in
    let threads = threads_few counts calls few short in
    omega (arith, twice, feeds, threads, few, callers)

-- where the quota of a ring stands, and that of a thread
pub got_front : {A : Type 0} (xs ys : List A) (k : ℕ) (x : A) → slice_get xs k ≡ Some x → slice_get (xs ++ ys) k ≡ Some x
got_front [] ys k x at = cc at
got_front (y ∷ xs) ys zero x at = at
got_front (y ∷ xs) ys (suc k) x at = got_front xs ys k x at

pub got_behind : {A : Type 0} (xs ys : List A) (n k : ℕ) → n ≡ length xs → slice_get (xs ++ ys) (n + k) ≡ slice_get ys k
got_behind [] ys n k e = let z : n + k ≡ k = omega (arith, e) in ap (slice_get ys) z
got_behind (x ∷ xs) ys zero k e = absurd (omega (arith, e))
got_behind (x ∷ xs) ys (suc n) k e =
    let z : suc n + k ≡ suc (n + k) = omega arith in
    ap (slice_get (x ∷ (xs ++ ys))) z ∙ got_behind xs ys n k (omega (arith, e))

-- the list of a thread that has a call
pub thread_there : (calls : List (List ℕ)) (j k c : ℕ) → slice_get (get_or calls j []) k ≡ Some c → slice_get calls j ≡ Some (get_or calls j [])
thread_there [] j k c at = cc at
thread_there (x ∷ calls) zero k c at = refl
thread_there (x ∷ calls) (suc j) k c at = thread_there calls j k c at

-- the asks for the calls before call k, and for it, are among those of all
pub asks_before : (counts called : List ℕ) (k c : ℕ) → slice_get called k ≡ Some c → asks_of counts (take k called) + (1 + slice_index counts c) ≤ asks_of counts called
asks_before counts [] k c at = cc at
asks_before counts (x ∷ called) zero c at =
    let e : x ≡ c = cc at in
    let both = sum_by-cons (λ (d : ℕ). 1 + slice_index counts d) x called in
    let same = ap (λ (d : ℕ). slice_index counts d) e in
    omega (arith, both, same)
asks_before counts (x ∷ called) (suc k) c at =
    let rest = asks_before counts called k c at in
    let both = sum_by-cons (λ (d : ℕ). 1 + slice_index counts d) x called in
    let front = sum_by-cons (λ (d : ℕ). 1 + slice_index counts d) x (take k called) in
    omega (arith, rest, both, front)
