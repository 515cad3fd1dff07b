-- What each pass of a squeue may enter, by where connections are at home, and the squeue's setting.
use Rattle.std.specs.Prelude.{ℕ, ◌+◌, ◌-◌, ◌*◌, ◌%◌, ◌≤◌, ◌==◌, ◌&&◌, not, Bool, List, ◌++◌, filter, length, map, sum_by}
use Rattle.std.specs.List.{range_with_len}
use Rattle.perimeter_core.specs.History.{Setting, all_quotas}
use Rattle.conn_classifier.specs.Plan.{PlanOf, items_in}
use Rattle.conn_blocks.specs.Allowed.{limits_in}
use Rattle.conn_blocks.specs.CallLists.{CallLists, calls_of}
use Rattle.histories.specs.Homes.{home, times_leaving}
use Rattle.conn_blocks.specs.Limits.{callers}
use Rattle.ring_quotas.specs.Limits.{most_rings, most_spread, most_squeues}
use Rattle.ring_quotas.specs.declared.setup.Setup.{Setup}

-- the numbers of a setup are those that it may have
pub record IsInRange (s : Setup) : Type 0 where
  pub squeues : (1 ≤ s.squeues) × (s.squeues ≤ most_squeues)
  pub rings : (1 ≤ s.rings) × (s.rings ≤ most_rings)
  pub budget : 1 ≤ s.budget
  pub spread : s.spread ≤ most_spread

-- whether connection c comes to squeue k between its feed n and the next one
abbrev pub comes_after : ℕ → ℕ → ℕ → ℕ → ℕ → Bool
comes_after squeues spread k c n = not (home squeues spread c n == k) && (home squeues spread c (n + 1) == k)

-- how often connection c, with so many feeds, comes to squeue k
abbrev pub times_coming : ℕ → ℕ → ℕ → ℕ → ℕ → ℕ
times_coming squeues spread k c feeds = length (filter (comes_after squeues spread k c) (range_with_len 0 (feeds - 1)))

-- how many of its feeds, with so many of them, find it at home at squeue k
abbrev pub feeds_at : ℕ → ℕ → ℕ → ℕ → ℕ → ℕ
feeds_at squeues spread k c feeds = length (filter (λ n. home squeues spread c n == k) (range_with_len 0 feeds))

-- the connections of the plan that are ring r's, of so many
abbrev pub conns_of : PlanOf → ℕ → ℕ → List ℕ
conns_of p rings r = filter (λ c. c % rings == r) (range_with_len 0 (length p.tuples))

module _ (p : PlanOf) (squeues rings spread q : ℕ) where
  -- how many feeds ring r enters at squeue q: those that find its connections at home there
  abbrev pub ring_feeds : ℕ → ℕ
  ring_feeds r = sum_by (λ c. feeds_at squeues spread q c (length (items_in p c))) (conns_of p rings r)

  -- and how many asks: one for each time that one of them leaves it or comes to it
  abbrev pub ring_asks : ℕ → ℕ
  ring_asks r =
      sum_by (λ c. times_leaving squeues spread q c (length (items_in p c)) + times_coming squeues spread q c (length (items_in p c))) (conns_of p rings r)

module _ (p : PlanOf) (calls : CallLists) (squeues spread q : ℕ) where
  -- how many asks application thread j enters at most: one for each of its calls, and one more for each time that the connection leaves
  abbrev pub caller_asks : ℕ → ℕ
  caller_asks j = sum_by (λ call. 1 + times_leaving squeues spread q call.0 (length (items_in p call.0))) (calls_of calls j)

-- the quotas of the passes of squeue q, feeds and asks: the rings', then the four application threads'
abbrev pub quotas_of : PlanOf → CallLists → ℕ → ℕ → ℕ → ℕ → List (ℕ × ℕ)
quotas_of p calls squeues rings spread q =
    map (λ r. (ring_feeds p squeues rings spread q r, ring_asks p squeues rings spread q r)) (range_with_len 0 rings)
    ++ map (λ j. (0, caller_asks p calls squeues spread q j)) (range_with_len 0 callers)

-- how many marks the squeues make in all at most: each of them eight for each entry of its quotas, and four for each of its passes
abbrev pub marks_most : PlanOf → CallLists → Setup → ℕ
marks_most p calls s =
    sum_by (λ q. let quotas = quotas_of p calls s.squeues s.rings s.spread q in 8 * all_quotas quotas + 4 * (length quotas + 1)) (range_with_len 0 s.squeues)

-- the setting of squeue q: each connection is first here at the squeue of its first home
abbrev pub setting_at : PlanOf → CallLists → ℕ → ℕ → ℕ → ℕ → Setting
setting_at p calls squeues rings spread q =
    record {
      rings = rings;
      quotas = quotas_of p calls squeues rings spread q;
      starts = map (λ c. c % squeues == q) (range_with_len 0 (length p.tuples));
      limits = limits_in p calls q squeues spread;
    }
