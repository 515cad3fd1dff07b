-- Histories that fit the plan, the calls and the setup of a run, and give these orders.
use Rattle.std.specs.Prelude.{◌≡◌, ℕ, ◌<◌, List, Some, length, slice_get}
use Rattle.perimeter_core.specs.declared.entries.Act.{Act}
use Rattle.histories.specs.Endings.{Ending}
use Rattle.histories.specs.Stays.{AreLinked}
use Rattle.histories.specs.Noted.{AreNoted}
use Rattle.histories.specs.Fitting.{IsHereOnce, EndFits}
use Rattle.conn_classifier.specs.Plan.{PlanOf}
use Rattle.conn_blocks.specs.CallLists.{CallLists}
use Rattle.conn_blocks.specs.Orders.{IsWhole, settle}
use Rattle.ring_quotas.specs.declared.setup.Setup.{Setup}
use Rattle.ring_quotas.specs.Quotas.{setting_at}

module _ (p : PlanOf) (calls : CallLists) (setup : Setup) where
  -- the history of squeue q fits the setting of its homes and quotas
  abbrev pub HistoryFits : ℕ → Ending → Type 0
  HistoryFits q e = EndFits setup.squeues setup.spread setup.mode setup.budget setup.rings q (setting_at p calls setup.squeues setup.rings setup.spread q) e

  -- There is one for each squeue. Connections go from stay to stay, each stay beginning with the feeds that were due, and each is
  -- here at the end of one history; their orders are what settles of the acts of all their stays, and whole
  pub record Fits (hs : List Ending) (orders : List (List Act)) : Type 0 where
    pub count : length hs ≡ setup.squeues
    pub each : (q : ℕ) (e : Ending) → slice_get hs q ≡ Some e → HistoryFits q e
    pub linked : AreLinked (length p.tuples) hs
    pub noted : (c : ℕ) → c < length p.tuples → AreNoted setup.spread hs c
    pub settled : (c : ℕ) (order : List Act) → slice_get orders c ≡ Some order → (done : List Act) × IsHereOnce hs c done × (order ≡ settle calls c done)
    pub whole : (c : ℕ) (order : List Act) → slice_get orders c ≡ Some order → IsWhole p calls c order
