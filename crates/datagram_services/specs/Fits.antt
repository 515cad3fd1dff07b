-- Histories of squeues that served the streams of a plan, by the setup of the run.
use Rattle.std.specs.Prelude.{◌≡◌, ℕ, ◌%◌, ◌==◌, Some, List, [], length, map, slice_get}
use Rattle.std.specs.List.{range_with_len}
use Rattle.perimeter_core.specs.History.{Setting}
use Rattle.histories.specs.Endings.{Ending}
use Rattle.histories.specs.Fitting.{EndFits}
use Rattle.squeue_pool.specs.Keys.{key_lists, quotas_at}
use Rattle.squeue_pool.specs.Runs.{IsHereOnce}
use Rattle.ring_quotas.specs.declared.setup.Setup.{Setup}
use Rattle.stream_plan.specs.Streams.{MorePlanOf, StreamOf, item_count}

-- how many items each stream has
abbrev pub counts_of : MorePlanOf → List ℕ
counts_of p = map item_count p.streams

-- the setting of squeue q: each ring may enter the feeds of its list that are at home there, and asks nothing; the streams are first here
-- whose number leaves q, divided by the squeues; each has a feed for each of its items; none leaves, and there are no calls
abbrev pub setting_at : MorePlanOf → ℕ → ℕ → ℕ → Setting
setting_at p squeues rings q =
    record {
      rings = rings;
      quotas = quotas_at squeues (key_lists rings (counts_of p)) q;
      starts = map (λ c. c % squeues == q) (range_with_len 0 (length p.streams));
      limits = record { feeds = counts_of p; leaves = []; calls = [] };
    }

module _ (p : MorePlanOf) (setup : Setup) where
  -- the history of squeue q fits its setting; no stream moves
  abbrev pub HistoryFits : ℕ → Ending → Type 0
  HistoryFits q e = EndFits setup.squeues 0 setup.mode setup.budget setup.rings q (setting_at p setup.squeues setup.rings q) e

  -- there is one for each squeue; and each stream is here at the end of the history of its own squeue, with all its items served, and
  -- after no other
  pub record Fits (hs : List Ending) : Type 0 where
    pub count : length hs ≡ setup.squeues
    pub each : (q : ℕ) (e : Ending) → slice_get hs q ≡ Some e → HistoryFits q e
    pub here : (c : ℕ) (s : StreamOf) → slice_get p.streams c ≡ Some s → IsHereOnce hs c (c % setup.squeues) (item_count s)
