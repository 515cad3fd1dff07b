-- What entries and elements count, over parts of a history, and what quotas sum up to.
use Rattle.std.proofs.Common.{◌≡◌, ◌+◌, ℕ, List, [], ◌∷◌, arith, true, ◌++◌, refl, Bool, false, ◌==◌, if◌then◌else◌, length}
use Rattle.perimeter_core.specs.History.{all_quotas, feed_quotas, Element, Setting, pass_of}
use Rattle.histories.specs.Quotas.{ask_quotas}
use Rattle.perimeter_core.specs.declared.entries.Entry.{Entry}
use Rattle.perimeter_core.specs.declared.entries.Entry.TheVariants.{Feed, Ask}
use Rattle.perimeter_core.specs.Legal.{all_feeds, feed_count, Legal, WithinQuota, feeds_by, asks_by}
use Rattle.perimeter_core.specs.declared.entries.Feed.{Feed as FeedOf}
use Rattle.perimeter_core.specs.Deeds.{entries, times_left, entries_of, fed, feed_numbers}
use Rattle.perimeter_core.proofs.Quotas.{within}
use Rattle.perimeter_core.specs.declared.entries.Act.{Act}
use Rattle.perimeter_core.specs.declared.entries.Act.TheVariants as Did

pub all_both : (qs : List (ℕ × ℕ)) → all_quotas qs ≡ feed_quotas qs + ask_quotas qs
all_both [] = omega arith
all_both (q ∷ qs) = omega (arith, all_both qs)

pub feeds_push : (xs : List Entry) (c n : ℕ) → all_feeds xs ≡ true → all_feeds (xs ++ Feed c n ∷ []) ≡ true
feeds_push [] c n h = refl
feeds_push (Feed d m ∷ xs) c n h = feeds_push xs c n h
feeds_push (Ask p ∷ xs) c n h = absurd cc

-- an Ask is no feed
pub count_ask : (xs : List Entry) (j : ℕ) → feed_count (xs ++ Ask j ∷ []) ≡ feed_count xs
count_ask [] j = refl
count_ask (Feed c n ∷ xs) j = omega (arith, count_ask xs j)
count_ask (Ask p ∷ xs) j = count_ask xs j

pub only_feeds : (fs : List FeedOf) → all_feeds (entries fs) ≡ true
only_feeds [] = refl
only_feeds (f ∷ fs) = only_feeds fs

pub left_append : (c : ℕ) (H K : List Element) → times_left c (H ++ K) ≡ times_left c H + times_left c K
left_append c [] K = omega arith
left_append c (e ∷ H) K = omega (arith, left_append c H K)

feeds_same : (p : ℕ) (H : List Element) (e : Element) → entries_of e.mark ≡ [] → feeds_by p (H ++ e ∷ []) ≡ feeds_by p H
feeds_same p [] e h = rw h (none (pass_of e.mark == p))
  where
    none : (b : Bool) → (if b then 0 else 0) + 0 ≡ 0
    none true = refl
    none false = refl
feeds_same p (x ∷ H) e h = omega (arith, feeds_same p H e h)

asks_same : (p : ℕ) (H : List Element) (e : Element) → entries_of e.mark ≡ [] → asks_by p (H ++ e ∷ []) ≡ asks_by p H
asks_same p [] e h = rw h (none (pass_of e.mark == p))
  where
    none : (b : Bool) → (if b then 0 else 0) + 0 ≡ 0
    none true = refl
    none false = refl
asks_same p (x ∷ H) e h = omega (arith, asks_same p H e h)

-- a mark that enters nothing keeps the quotas
pub quota_kept : (S : Setting) (p : ℕ) (H : List Element) (e : Element) → Legal S H → entries_of e.mark ≡ [] → WithinQuota S p (H ++ e ∷ [])
quota_kept S p H e l h =
    let w = within S p H l in
    record { feeds = omega (arith, w.feeds, feeds_same p H e h); asks = omega (arith, w.asks, asks_same p H e h) }

pub fed_counts : (acts : List Act) → length (feed_numbers acts) ≡ fed acts
fed_counts [] = refl
fed_counts (Did.Feed n ∷ acts) = omega (arith, fed_counts acts)
fed_counts (Did.Call j k ∷ acts) = fed_counts acts
