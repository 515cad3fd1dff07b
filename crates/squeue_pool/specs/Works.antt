-- What is to be done by a run, and what it has to suit.
use Rattle.std.specs.Prelude.{◌≡◌, ℕ, ◌+◌, ◌%◌, ◌<◌, ◌≤◌, ◌^◌, ◌==◌, Some, List, [], Vec, length, map, slice_get, slice_index_or, take}
use Rattle.std.specs.List.{range_with_len}
use Rattle.std.specs.declared.alloc.Global.{Global}
use Rattle.perimeter_core.specs.declared.entries.Feed.{Feed}
use Rattle.perimeter_core.specs.declared.resident.Resident.{Ghosts}
use Rattle.perimeter_core.specs.History.{Setting, feed_quotas}
use Rattle.placed_parts.specs.Standing.{first_here}
use Rattle.histories.specs.declared.quota.Quota.{Quota}
use Rattle.squeue_state.specs.AllRoom.{HasAllRoom}
use Rattle.histories.specs.Quotas.{pairs, ask_quotas}
use Rattle.histories.specs.Limits.{most_asks, most_feeds, most_quotas}
use Rattle.squeue_state.specs.Naming.{Named, setting_of}
use Rattle.squeue_rings.specs.Calling.{MayMake}
use Rattle.squeue_rings.specs.Rings.{MayBring}
use Rattle.histories.specs.Runs.{InOrder}
use Rattle.squeue_rings.specs.Doing.{called_by}
use Rattle.squeue_rings.specs.declared.intake.Intake.{Intake}
use Rattle.squeue_pool.specs.declared.pool.Pool.{Pool}
use Rattle.squeue_pool.specs.declared.work.Work.{Work}

-- how many connections there are; by squeue its resident, and the quotas of its passes, feeds and asks; by ring its feeds; and by
-- application thread the connections of its calls
pub record WorkOf (R : Type 0) : Type 0 where
  pub conns : ℕ
  pub residents : List R
  pub quotas : List (List (ℕ × ℕ))
  pub lists : List (List Feed)
  pub calls : List (List ℕ)

abbrev pub work_of : {R : Type 0} → Work R → WorkOf R
work_of w =
    record {
      conns = w.conns;
      residents = w.residents.items;
      quotas = map (λ v. pairs v.items) w.quotas.items;
      lists = map (λ v. v.items) w.lists.items;
      calls = map (λ v. v.items) w.calls.items;
    }

-- the same by its parts, where the lists stand in intakes
abbrev pub work_by : {R : Type 0} → ℕ → List R → List (Vec Quota Global) → List Intake → List (Vec ℕ Global) → WorkOf R
work_by conns residents quotas intakes calls =
    record {
      conns = conns;
      residents = residents;
      quotas = map (λ v. pairs v.items) quotas;
      lists = map (λ l. l.list.items) intakes;
      calls = map (λ v. v.items) calls;
    }

module _ {R P O : Type 0} (G : Ghosts R P O) (pool : Pool) where
  -- the setting of squeue q with this resident and these quotas: each connection is first here at the squeue of its first home
  abbrev pub setting_at : ℕ → R → List (ℕ × ℕ) → Setting
  setting_at q first quotas =
      record {
        rings = pool.rings;
        quotas = quotas;
        starts = map (λ c. c % pool.pace.homes.squeues == q) (range_with_len 0 (G.size first));
        limits = G.limits first;
      }

  -- Squeue q can be made, where so many threads call: it has a quota for each ring and each of these threads, and they aren't too great;
  -- and at its resident just those connections are here, as new, that are first at home there
  pub record SuitsSqueue (callers q : ℕ) (first : R) (quotas : List (ℕ × ℕ)) : Type 0 where
    pub passes : length quotas ≡ pool.rings + callers
    pub feeds : feed_quotas quotas ≤ most_feeds
    pub asks : ask_quotas quotas ≤ most_asks
    pub stands : G.stands first (first_here (G.size first) q pool.pace.homes.squeues)

  module _ (residents : List R) (quotas : List (List (ℕ × ℕ))) where
    -- the squeue was made as number q of those with these residents and quotas, with its setting, and with room for all
    pub record IsFor (q : ℕ) (s : Named R) : Type 0 where
      pub number : s.given.number ≡ q
      pub first : slice_get residents q ≡ Some s.given.first
      pub setting : setting_of G.limits s.given ≡ setting_at q s.given.first (slice_index_or quotas q [])
      pub traced : s.given.traced ≡ pool.trace
      pub room : HasAllRoom s.given

    -- there are as many as the pool has, by number
    pub record AreFor (ss : List (Named R)) : Type 0 where
      pub count : length ss ≡ pool.pace.homes.squeues
      pub each : (q : ℕ) (s : Named R) → slice_get ss q ≡ Some s → IsFor q s

    -- there are residents and quotas for as many, and each can be made
    pub record SuitSqueues (callers : ℕ) : Type 0 where
      pub residents_are : length residents ≡ pool.pace.homes.squeues
      pub quotas_are : length quotas ≡ pool.pace.homes.squeues
      pub each : (q : ℕ) (first : R) (qs : List (ℕ × ℕ)) → slice_get residents q ≡ Some first → slice_get quotas q ≡ Some qs
          → SuitsSqueue callers q first qs

  module _ (w : WorkOf R) where
    -- The squeues can be made, and their residents have the same connections and the same origin. There is a list for each ring, in which the
    -- feeds of each connection come in order. By its quotas and its resident's limits each squeue lets the rings bring their lists, and the
    -- application threads make their calls
    pub record Suits : Type 0 where
      pub squeues : SuitSqueues w.residents w.quotas (length w.calls)
      pub sizes : (q : ℕ) (first : R) → slice_get w.residents q ≡ Some first → G.size first ≡ w.conns
      pub same_origin : (i j : ℕ) (x y : R) → slice_get w.residents i ≡ Some x → slice_get w.residents j ≡ Some y → G.origin x ≡ G.origin y
      pub lists : length w.lists ≡ pool.rings
      pub short_lists : (r : ℕ) (list : List Feed) → slice_get w.lists r ≡ Some list → length list < 2 ^ 32
      pub order : (r : ℕ) (list : List Feed) → slice_get w.lists r ≡ Some list → InOrder list
      pub bring : (r : ℕ) (list : List Feed) (q : ℕ) (s : Named R) → slice_get w.lists r ≡ Some list → IsFor w.residents w.quotas q s
          → MayBring G.limits pool.pace.homes.squeues pool.pace.homes.spread r list s
      pub short_calls : (j : ℕ) → length (called_by w.calls j) < 2 ^ 32
      pub make : (j k c q : ℕ) (s : Named R) → slice_get (called_by w.calls j) k ≡ Some c → IsFor w.residents w.quotas q s
          → MayMake G.limits s j k (take k (called_by w.calls j)) c

-- there are rings, and no more passes than a squeue may have
abbrev pub IsInRange : Pool → ℕ → Type 0
IsInRange pool callers = (1 ≤ pool.rings) × (pool.rings + callers ≤ most_quotas)
