-- The value behind a gate stands for a legal history.
use Rattle.std.specs.Prelude.{◌≡◌, ◌<◌, ◌≤◌, ◌+◌, ◌*◌, ℕ, Bool, true, false, if◌then◌else◌, Option, Some, None, List, [], map, length, vec_capacity}
use Rattle.std.specs.Prelude.{Vec}
use Rattle.perimeter_core.specs.declared.resident.Resident.{Ghosts}
use Rattle.perimeter_core.specs.declared.entries.Entry.{Entry}
use Rattle.perimeter_core.specs.declared.marks.SynchAct.{SynchAct}
use Rattle.perimeter_core.specs.declared.marks.SynchAct.TheVariants as Done
use Rattle.perimeter_core.specs.declared.marks.Own.{Own}
use Rattle.perimeter_core.specs.declared.marks.Own.TheVariants.{Free, Out, Granted}
use Rattle.perimeter_core.specs.History.{Element, Setting, worker, run, all_quotas, feed_quotas}
use Rattle.perimeter_core.specs.Backlog.{queue}
use Rattle.perimeter_core.specs.Legal.{Legal, feed_count}
use Rattle.perimeter_core.specs.Blocks.{Blocks, peri}
use Rattle.squeue_state.specs.declared.inner.Inner.{Inner}
use Rattle.squeue_state.specs.declared.guarded.Guarded.{Guarded}
use Rattle.squeue_state.specs.declared.guarded.Life.{Life}
use Rattle.squeue_state.specs.Lone.{is_lone}
use Rattle.histories.specs.Limits.{most_entries, most_room, most_passes}
use Rattle.squeue_state.specs.Told.{Traced, marks_of}
use Rattle.perimeter_core.specs.Deeds.{entered}
use Rattle.squeue_state.specs.Naming.{Given, setting_of}

-- a slice of lives, as contracts see it
abbrev pub ever : List Life → List (ℕ × ℕ)
ever lives = map (λ l. (l.feeds, l.asks)) lives

-- what the squeue was made with, by the value that its gate was made with
abbrev pub given_of : {R : Type 0} → Guarded R → Given R
given_of v =
    record {
      number = v.facts.value.number;
      rings = v.facts.value.rings;
      quotas = v.facts.value.quotas;
      starts = v.facts.value.starts;
      traced = v.facts.value.traced;
      room = v.facts.value.room;
      first = v.first.value;
    }

-- how many entries may be queued where all feeds of the quotas fit: all feeds, and one ask for each pass
abbrev pub room_of : List (ℕ × ℕ) → ℕ
room_of qs = feed_quotas qs + (length qs + 1)

module _ {R P O : Type 0} (G : Ghosts R P O) where
  -- one of the squeue's residents, which stands for these blocks
  pub record IsPeri (g : Given R) (r : R) (blocks : Blocks) : Type 0 where
    pub stands_for : G.stands r blocks
    pub same_limits : G.limits r ≡ G.limits g.first
    pub same_size : G.size r ≡ length g.starts
    pub same_origin : G.origin r ≡ G.origin g.first

  -- the resident lies in the gate unless a pass is out
  abbrev pub Lies : Given R → Own → Option R → Blocks → Type 0
  Lies g (Out p) None blocks = Unit {0}
  Lies g (Out p) (Some r) blocks = ⊥
  Lies g Free None blocks = ⊥
  Lies g Free (Some r) blocks = IsPeri g r blocks
  Lies g (Granted p) None blocks = ⊥
  Lies g (Granted p) (Some r) blocks = IsPeri g r blocks

-- there is an empty buffer with room for just n entries
abbrev pub HasEmpty : {A : Type 0} → ℕ → Option (Vec Entry A) → Type 0
HasEmpty n None = ⊥
HasEmpty n (Some v) = (v.items ≡ []) × (n ≡ vec_capacity v)

-- so does the second buffer, empty; and where the owner came by Fast it lies here too, and the owner has just one entry
abbrev pub Spare : {A : Type 0} → ℕ → Bool → ℕ → Own → Option (Vec Entry A) → Type 0
Spare room true in_hand o s = HasEmpty room s × (in_hand ≡ 1)
Spare room false in_hand Free s = HasEmpty room s
Spare room false in_hand (Out p) None = Unit {0}
Spare room false in_hand (Out p) (Some v) = ⊥
Spare room false in_hand (Granted p) s = HasEmpty room s

-- n more feeds fit behind what is queued, and an ask of each pass beside them
abbrev pub FeedsFit : Setting → ℕ → List Element → ℕ → Type 0
FeedsFit S room H n = feed_count (queue (run S H)) + n + worker S ≤ room

module _ {R P O : Type 0} (G : Ghosts R P O) where
  -- What lies behind the gate stands for the history. The chain has its room of the beginning, and what is queued or in the
  -- owner's hand fits it, with an Ask of each pass. The counts are few enough for what counts marks and entries
  pub record Behind (g : Given R) (i : Inner R) (H : List Element) : Type 0 where
    pub legal : Legal (setting_of G.limits g) H
    pub own : i.own ≡ (run (setting_of G.limits g) H).own
    pub chain : i.chain.items ≡ (run (setting_of G.limits g) H).chain
    pub wake : i.wake ≡ (run (setting_of G.limits g) H).wake
    pub polling : i.polling ≡ (run (setting_of G.limits g) H).polling
    pub here : i.here.items ≡ (run (setting_of G.limits g) H).here
    pub closed : i.closed.items ≡ (run (setting_of G.limits g) H).closed
    pub resident : Lies G g i.own i.resident (peri (setting_of G.limits g) H)
    pub spare : Spare g.room (is_lone i.own H) i.in_hand i.own i.spare
    pub room : g.room ≡ vec_capacity i.chain
    pub out : i.in_hand ≡ length (run (setting_of G.limits g) H).hand
    pub fits : FeedsFit (setting_of G.limits g) g.room H 0
    pub short : length (run (setting_of G.limits g) H).hand + length (run (setting_of G.limits g) H).chain ≤ g.room
    pub few : (all_quotas g.quotas ≤ most_entries) × (length g.quotas < most_passes) × (g.room ≤ most_room)

-- The marks of the history are kept where that was asked for, with room for just all that may come
pub record Noted {R : Type 0} (g : Given R) (traced : Bool) (t : Traced) (H : List Element) : Type 0 where
  pub same : traced ≡ g.traced
  pub marks : marks_of t ≡ (if traced then map (λ e. e.mark) H else [])
  pub entries : length t.entries ≤ length (entered H)
  pub mark_room : t.mark_room ≡ (if traced then 8 * all_quotas g.quotas + 4 * (length g.quotas + 1) else 0)
  pub entry_room : t.entry_room ≡ (if traced then all_quotas g.quotas else 0)

module _ {R P O : Type 0} (G : Ghosts R P O) where
  -- in a gate made with the value f, the value v stands for the history
  abbrev pub StandsFor : Guarded R → Guarded R → List Element → Type 0
  StandsFor f v H = Behind G (given_of f) v.inner H × Noted (given_of f) v.traced v.trace H

-- the act's connection has a flag
abbrev pub ActBelow : ℕ → SynchAct → Type 0
ActBelow n (Done.Out c) = c < n
ActBelow n (Done.In c) = c < n
ActBelow n _ = Unit {0}
