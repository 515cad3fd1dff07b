-- Work by key: connections that stay at their squeues, each with a number of feeds, and nobody calls.
use Rattle.std.specs.Prelude.{◌≡◌, ℕ, ◌%◌, ◌<◌, Some, List, [], length, map, slice_get, slice_index}
use Rattle.std.specs.List.{range_with_len}
use Rattle.perimeter_core.specs.declared.entries.Feed.{Feed}
use Rattle.perimeter_core.specs.declared.resident.Resident.{Ghosts}
use Rattle.perimeter_core.specs.Residing.{HadFeeds}
use Rattle.placed_parts.specs.Standing.{first_here}
use Rattle.histories.specs.Runs.{count, is_at}
use Rattle.histories.specs.Lists.{list_of}
use Rattle.squeue_pool.specs.declared.work.Left.{Left}
use Rattle.squeue_pool.specs.Works.{WorkOf}

-- the feeds of so many rings, by number, where the connections have so many feeds
abbrev pub key_lists : ℕ → List ℕ → List (List Feed)
key_lists rings counts = map (λ r. list_of rings r 0 counts) (range_with_len 0 rings)

-- each ring may enter at squeue q the feeds of its list that are at home there, of so many squeues, and asks nothing
abbrev pub quotas_at : ℕ → List (List Feed) → ℕ → List (ℕ × ℕ)
quotas_at squeues lists q = map (λ list. (count (is_at squeues 0 q) list, 0)) lists

abbrev pub key_quotas : ℕ → List (List Feed) → List (List (ℕ × ℕ))
key_quotas squeues lists = map (quotas_at squeues lists) (range_with_len 0 squeues)

-- the work of so many squeues and rings, where the connections have so many feeds
abbrev pub key_work : {R : Type 0} → ℕ → ℕ → List ℕ → List R → WorkOf R
key_work squeues rings counts residents =
    record { conns = length counts; residents = residents; quotas = key_quotas squeues (key_lists rings counts); lists = key_lists rings counts; calls = [] }

module _ {R P O : Type 0} (G : Ghosts R P O) (squeues : ℕ) (counts : List ℕ) where
  -- There is a resident for each squeue, with the same origin. It has a place for each connection, of which those are here, as new, that are
  -- at home there, and lets each have its feeds
  pub record HaveKeys (residents : List R) : Type 0 where
    pub residents_are : length residents ≡ squeues
    pub sizes : (q : ℕ) (first : R) → slice_get residents q ≡ Some first → G.size first ≡ length counts
    pub stand : (q : ℕ) (first : R) → slice_get residents q ≡ Some first → G.stands first (first_here (length counts) q squeues)
    pub feeds : (q : ℕ) (first : R) → slice_get residents q ≡ Some first → (G.limits first).feeds ≡ counts
    pub same_origin : (i j : ℕ) (x y : R) → slice_get residents i ≡ Some x → slice_get residents j ≡ Some y → G.origin x ≡ G.origin y

  -- each connection has had all its feeds, at the squeue of its number, modulo the squeues
  abbrev pub HadAll : List (Left R) → Type 0
  HadAll vs = (c : ℕ) (v : Left R) → c < length counts → slice_get vs (c % squeues) ≡ Some v → HadFeeds (G.stands v.resident) c (slice_index counts c)
