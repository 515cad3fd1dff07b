-- What a squeue keeps in memory while its marks are replayed, and which history it stands for: beside the state of the machine there
-- are counts that the conditions of the marks are read off in constant time.
use Rattle.std.specs.Prelude.{◌≡◌, ℕ, ◌+◌, ◌||◌, Bool, Some, List, ◌++◌, length, map, slice_get}
use Rattle.perimeter_core.specs.declared.entries.Act.{Act}
use Rattle.perimeter_core.specs.declared.entries.Entry.{Entry}
use Rattle.perimeter_core.specs.declared.marks.Own.{Own}
use Rattle.perimeter_core.specs.Perimeter.{has_ask, is_closed, is_here}
use Rattle.perimeter_core.specs.History.{Element, Setting, ask_quota, feed_quota, run}
use Rattle.perimeter_core.specs.Deeds.{due, feeds_of, times_left}
use Rattle.perimeter_core.specs.Legal.{Legal, asks_by, feeds_by}
use Rattle.histories.specs.Endings.{Ending}
use Rattle.histories.specs.Stays.{all_in, stays}
use Rattle.squeue_replay.specs.declared.guest.Guest.{Guest}
use Rattle.squeue_replay.specs.Histories.{times_in}
use Rattle.squeue_replay.specs.Parts.{parts_of}

-- a pass: whether it is closed, whether an Ask of it is queued, and what it may still enter
pub record PassOf : Type 0 where
  pub closed : Bool
  pub waiting : Bool
  pub feeds : ℕ
  pub asks : ℕ

-- a connection: whether it is here, its next feed, how many feeds of it are queued, how often it left and came, and what was done to
-- it in each of its stays here
pub record GuestOf : Type 0 where
  pub here : Bool
  pub due : ℕ
  pub queued : ℕ
  pub left : ℕ
  pub came : ℕ
  pub did : List (List Act)

pub record SqueueOf : Type 0 where
  pub own : Own
  pub wake : Bool
  pub chain : List Entry
  pub hand : List Entry
  pub passes : List PassOf
  pub guests : List GuestOf

module _ (S : Setting) (H : List Element) where
  -- the pass is as the history has left it
  pub record PassStands (p : ℕ) (s : PassOf) : Type 0 where
    pub closed : s.closed ≡ is_closed (run S H) p
    pub waiting : s.waiting ≡ (has_ask p (run S H).hand || has_ask p (run S H).chain)
    pub feeds : s.feeds + feeds_by p H ≡ feed_quota S p
    pub asks : s.asks + asks_by p H ≡ ask_quota S p

  -- so is the connection
  pub record GuestStands (c : ℕ) (g : GuestOf) : Type 0 where
    pub here : g.here ≡ is_here (run S H) c
    pub due : g.due ≡ due H c
    pub queued : g.queued ≡ length (feeds_of c ((run S H).hand ++ (run S H).chain))
    pub left : g.left ≡ times_left c H
    pub came : g.came ≡ times_in c (map (λ e. e.mark) H)
    pub did : g.did ≡ map (λ v. v.own) (all_in (stays S H c))

  -- and the squeue
  pub record Stands (s : SqueueOf) : Type 0 where
    pub legal : Legal S H
    pub own : s.own ≡ (run S H).own
    pub wake : s.wake ≡ (run S H).wake
    pub chain : s.chain ≡ (run S H).chain
    pub hand : s.hand ≡ (run S H).hand
    pub passes : length s.passes ≡ length S.quotas
    pub each_pass : (p : ℕ) (x : PassOf) → slice_get s.passes p ≡ Some x → PassStands p x
    pub guests : length s.guests ≡ length S.starts
    pub each_guest : (c : ℕ) (g : GuestOf) → slice_get s.guests c ≡ Some g → GuestStands c g

abbrev pub guest_of : Guest → GuestOf
guest_of g = record { here = g.here; due = g.due; queued = g.queued; left = g.left; came = g.came; did = parts_of g.stays.items g.acts.items }

-- of each squeue what it had of each connection, after these histories
pub record GuestsStand (hs : List Ending) (guests : List (List GuestOf)) : Type 0 where
  pub count : length guests ≡ length hs
  pub each : (q : ℕ) (e : Ending) (gs : List GuestOf) → slice_get hs q ≡ Some e → slice_get guests q ≡ Some gs
      → (c : ℕ) (g : GuestOf) → slice_get gs c ≡ Some g → GuestStands e.setting e.history c g
  pub all : (q : ℕ) (e : Ending) (gs : List GuestOf) → slice_get hs q ≡ Some e → slice_get guests q ≡ Some gs → length gs ≡ length e.setting.starts
