-- What a run has done: the whole of its histories.
use Rattle.std.specs.Prelude.{◌≡◌, ◌≢◌, ℕ, ◌+◌, ◌%◌, ◌<◌, true, false, if◌then◌else◌, Some, List, [], ◌∷◌, length, map, slice_get, slice_index_or}
use Rattle.perimeter_core.specs.declared.entries.Feed.{Feed}
use Rattle.perimeter_core.specs.declared.resident.Resident.{Ghosts}
use Rattle.perimeter_core.specs.Blocks.{peri}
use Rattle.perimeter_core.specs.Deeds.{acts, fed}
use Rattle.perimeter_core.specs.History.{run}
use Rattle.perimeter_core.specs.Perimeter.{is_here}
use Rattle.histories.specs.Endings.{HasEnded, Ending}
use Rattle.squeue_state.specs.Told.{marks_of}
use Rattle.histories.specs.Stays.{AreLinked}
use Rattle.histories.specs.Keeping.{KeepsPace}
use Rattle.squeue_rings.specs.Made.{once_on, times_made}
use Rattle.histories.specs.Noted.{AreNoted}
use Rattle.histories.specs.Runs.{brought, place}
use Rattle.squeue_rings.specs.Doing.{called_by}
use Rattle.squeue_pool.specs.declared.pool.Pool.{Pool}
use Rattle.squeue_pool.specs.declared.work.Left.{Left}
use Rattle.squeue_pool.specs.Keeping.{PassesKeep}
use Rattle.squeue_pool.specs.Works.{WorkOf, setting_at}

-- the ends of the squeues
abbrev pub ends_of : {R : Type 0} → List (Left R) → List Ending
ends_of vs = map (λ v. v.end) vs

-- how often all histories together made call k of thread j on connection c
abbrev pub made_in_all : ℕ → ℕ → ℕ → List Ending → ℕ
made_in_all c j k [] = 0
made_in_all c j k (h ∷ hs) = times_made c j k h.history + made_in_all c j k hs

-- connection c is here after the history of squeue q, with n feeds done, and after no other
pub record IsHereOnce (hs : List Ending) (c q n : ℕ) : Type 0 where
  pub end : Ending
  pub is_end : slice_get hs q ≡ Some end
  pub here : is_here (run end.setting end.history) c ≡ true
  pub feeds : fed (acts end.setting end.history c) ≡ n
  pub nowhere_else : (k : ℕ) (e : Ending) → k ≢ q → slice_get hs k ≡ Some e → is_here (run e.setting e.history) c ≡ false

-- the feeds of the ring of connection c, of so many
abbrev pub list_for : List (List Feed) → ℕ → ℕ → List Feed
list_for lists rings c = slice_index_or lists (c % rings) []

module _ {R P O : Type 0} (G : Ghosts R P O) (pool : Pool) (w : WorkOf R) where
  -- What is left of squeue q, whose first resident this was. Its history has the squeue's setting, is legal, and has ended: all passes but
  -- the worker's are closed, nobody has the perimeter, and nothing is queued; its rings kept the homes, the mode and the budget. The
  -- resident stands for what the history did, and the trace has its marks, where they were asked for
  pub record IsLeft (q : ℕ) (first : R) (v : Left R) : Type 0 where
    pub number : v.end.number ≡ q
    pub setting : v.end.setting ≡ setting_at G pool q first (slice_index_or w.quotas q [])
    pub ended : HasEnded v.end
    pub keeps : (r : ℕ) → r < pool.rings
        → KeepsPace pool.pace.homes.squeues pool.pace.homes.spread pool.pace.mode pool.pace.budget q v.end.setting r v.end.history
    pub stands : G.stands v.resident (peri v.end.setting v.end.history)
    pub limits : G.limits v.resident ≡ G.limits first
    pub size : G.size v.resident ≡ w.conns
    pub origin : G.origin v.resident ≡ G.origin first
    pub trace : marks_of v.trace ≡ (if pool.trace then map (λ m. m.mark) v.end.history else [])

  -- There is one for each squeue. Connections go from stay to stay, each stay beginning with the feeds that were due. Each is here at the
  -- end of one history, that of the home of its last feed, with all feeds that its ring's list has of it done; each call of the
  -- application threads was made once, and no other; and each mark of all passes is the one for what its turn found
  pub record HasRun (vs : List (Left R)) : Type 0 where
    pub count : length vs ≡ pool.pace.homes.squeues
    pub each : (q : ℕ) (first : R) (v : Left R) → slice_get w.residents q ≡ Some first → slice_get vs q ≡ Some v → IsLeft q first v
    pub linked : AreLinked w.conns (ends_of vs)
    pub noted : (c : ℕ) → c < w.conns → AreNoted pool.pace.homes.spread (ends_of vs) c
    pub here : (c : ℕ) → c < w.conns
        → IsHereOnce (ends_of vs) c (place pool.pace.homes.squeues pool.pace.homes.spread c (list_for w.lists pool.rings c))
        (brought c (list_for w.lists pool.rings c))
    pub called : (c j k : ℕ) → made_in_all c j k (ends_of vs) ≡ once_on (called_by w.calls j) c k
    pub keep : (q : ℕ) (e : Ending) → slice_get (ends_of vs) q ≡ Some e → PassesKeep pool.pace.mode e
