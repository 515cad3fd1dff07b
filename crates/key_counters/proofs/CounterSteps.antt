-- A counter that goes on by one amount or one reading.
use Rattle.std.proofs.Common.{◌≡◌, ℕ, ◌+◌, ◌<◌, true, List, [], ◌∷◌, ◌++◌, length, sum, take, get_or, refl, ap, sym, ◌∙◌, arith}
use Rattle.std.proofs.lemmas.List.Sums.{sum_by_more}
use Rattle.squeue.specs.declared.Act.{Act}
use Rattle.squeue.specs.declared.Act.TheVariants as Did
use Rattle.squeue.specs.Deeds.{fed}
use Rattle.squeue.proofs.NextFeed.{fed-append}
use Rattle.squeue.specs.Standing.{HasFed}
use Rattle.key_counters.specs.declared.counters.Counter.{Counter}
use Rattle.key_counters.specs.Counting.{Counts, HasAdded, has_reading, before_last_reading}

reading_last : (xs : List Act) (j i : ℕ) → has_reading (xs ++ Did.Call j i ∷ []) ≡ true
reading_last [] j i = refl
reading_last (Did.Feed n ∷ xs) j i = reading_last xs j i
reading_last (Did.Call l k ∷ xs) j i = refl

-- before a reading that is the last act stand all acts but it
before-reading : (xs : List Act) (j i : ℕ) → before_last_reading (xs ++ Did.Call j i ∷ []) ≡ xs
before-reading [] j i = refl
before-reading (x ∷ xs) j i = rw (reading_last xs j i) (ap (λ ys. x ∷ ys) (before-reading xs j i))

feed_reads_nothing : (xs : List Act) (n : ℕ) → has_reading (xs ++ Did.Feed n ∷ []) ≡ has_reading xs
feed_reads_nothing [] n = refl
feed_reads_nothing (Did.Feed m ∷ xs) n = feed_reads_nothing xs n
feed_reads_nothing (Did.Call j k ∷ xs) n = refl

-- a feed leaves the last reading where it is
before-feed : (xs : List Act) (n : ℕ) → before_last_reading (xs ++ Did.Feed n ∷ []) ≡ before_last_reading xs
before-feed [] n = refl
before-feed (x ∷ xs) n = rw (feed_reads_nothing xs n, before-feed xs n) refl

pub had_feeds_is : (k : Counter) (n : ℕ) → HasFed (HasAdded k) n → k.had ≡ n
had_feeds_is k n h = sym h.stands.feeds ∙ h.feeds

-- one amount more
pub amount_counts : (c n amount : ℕ) (row : List ℕ) (k next : Counter) → Counts c row k → k.had ≡ n → n < length row → amount ≡ get_or row n 0
    → next.key ≡ k.key → next.had ≡ k.had + 1 → next.total ≡ k.total + amount → next.read_at ≡ k.read_at → next.read ≡ k.read → Counts c row next
amount_counts c n amount row k next h was within is key more total at read =
    let sums = λ (i : ℕ). sum (take i row) in
    let now : next.had ≡ n + 1 = omega arith in
    record {
      key = key ∙ h.key;
      within = omega arith;
      total = total ∙ (omega (arith, is, h.total, ap sums was, sum_by_more (λ x. x) row n 0 within, ap sums now));
      read = read ∙ (h.read ∙ ap sums (sym at));
    }

pub amount_added : (n : ℕ) (k next : Counter) (had : List Act) → next.had ≡ k.had + 1 → next.read_at ≡ k.read_at → HasAdded k had → HasAdded next (had ++ Did.Feed n ∷ [])
amount_added n k next had more at h =
    record {
      feeds = fed-append had (Did.Feed n ∷ []) ∙ omega (arith, h.feeds, more);
      read = ap fed (before-feed had n) ∙ (h.read ∙ sym at);
    }

pub reading_added : (j i : ℕ) (k : Counter) (had : List Act) → HasAdded k had → HasAdded (record k { read_at = k.had; read = k.total }) (had ++ Did.Call j i ∷ [])
reading_added j i k had h =
    record {
      feeds = fed-append had (Did.Call j i ∷ []) ∙ omega (arith, h.feeds);
      read = ap fed (before-reading had j i) ∙ h.feeds;
    }
