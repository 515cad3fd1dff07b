-- What one more mark does to what is kept in memory.
use Rattle.std.specs.Prelude.{◌≡◌, ℕ, ◌+◌, ◌-◌, ◌*◌, ◌%◌, ◌^◌, ◌<◌, ◌≤◌, ◌==◌, ◌&&◌, Bool, true, false, if◌then◌else◌, Contains}
use Rattle.std.specs.Prelude.{MatchOption, Option, Some, List, [], ◌∷◌, ◌++◌, length, map, slice_get, slice_index}
use Rattle.perimeter_core.specs.declared.entries.Act.{Act}
use Rattle.perimeter_core.specs.declared.entries.Act.TheVariants as Did
use Rattle.perimeter_core.specs.declared.entries.Entry.{Entry}
use Rattle.perimeter_core.specs.declared.marks.SynchAct.{SynchAct}
use Rattle.perimeter_core.specs.declared.marks.SynchAct.TheVariants as Done
use Rattle.perimeter_core.specs.Perimeter.{ends_with_ask}
use Rattle.perimeter_core.specs.History.{Element, Setting, run, worker}
use Rattle.perimeter_core.specs.Deeds.{done_by, fed, feed_acts, feeds_of}
use Rattle.perimeter_core.specs.Legal.{May, feed_count, only_last_ask}
use Rattle.squeue_replay.specs.Histories.{stay_of, times_in}
use Rattle.squeue_replay.specs.Standing.{GuestOf, PassOf, SqueueOf, Stands}

-- the last of these lists, if there is one, with more acts
abbrev pub last_longer : List Act → List (List Act) → List (List Act)
last_longer more [] = []
last_longer more (x ∷ []) = (x ++ more) ∷ []
last_longer more (x ∷ y ∷ l) = x ∷ last_longer more (y ∷ l)

-- a connection after these entries were processed
abbrev pub guest_fed : ℕ → List Entry → GuestOf → GuestOf
guest_fed c es g = record g { queued = g.queued - length (feeds_of c es); did = last_longer (feed_acts c es) g.did }

-- and after an act; one that is put in has had so many feeds
abbrev pub guest_acted : ℕ → ℕ → SynchAct → GuestOf → GuestOf
guest_acted c fed (Done.Call d j k) g = if d == c then record g { did = last_longer (Did.Call j k ∷ []) g.did } else g
guest_acted c fed (Done.Out d) g = if d == c then record g { here = false; left = g.left + 1 } else g
guest_acted c fed (Done.In d) g = if d == c then record g { here = true; due = fed; came = g.came + 1; did = g.did ++ [] ∷ [] } else g
guest_acted c fed _ g = g

-- each connection became what is said of it
pub record Became (f : ℕ → GuestOf → GuestOf) (gs hs : List GuestOf) : Type 0 where
  pub count : length hs ≡ length gs
  pub each : (c : ℕ) (h : GuestOf) → slice_get hs c ≡ Some h → (g : GuestOf) × (slice_get gs c ≡ Some g) × (h ≡ f c g)

-- the Ask of pass j is queued no more, if it was processed
pub record Answered (ask : Bool) (j : ℕ) (ps qs : List PassOf) : Type 0 where
  pub count : length qs ≡ length ps
  pub each : (p : ℕ) (y : PassOf) → slice_get qs p ≡ Some y
      → (x : PassOf) × (slice_get ps p ≡ Some x) × (y ≡ record x { waiting = if ask && (j == p) then false else x.waiting })

-- these entries of the hand were processed: feeds, and last of all maybe an Ask of pass j
pub record Processed (es : List Entry) (j n : ℕ) (ask : Bool) (s t : SqueueOf) : Type 0 where
  pub right : only_last_ask j es ≡ true
  pub asked : ask ≡ ends_with_ask j es
  pub feeds : n ≡ feed_count es
  pub hand : s.hand ≡ es ++ t.hand
  pub passes : Answered ask j s.passes t.passes
  pub guests : Became (λ c. guest_fed c es) s.guests t.guests
  pub own : t.own ≡ s.own
  pub wake : t.wake ≡ s.wake
  pub chain : t.chain ≡ s.chain

-- one more mark: the squeue stands for the longer history, and so many feeds were processed; or the mark may not follow
abbrev pub Tells : Setting → List Element → SqueueOf → Element → Option ℕ → Type 0
Tells S H t e o = MatchOption o (May S H e → ⊥) (λ n. Stands S (H ++ e ∷ []) t × (n ≡ feed_count (done_by (run S H) e.mark)))

-- what an In notes has as many feeds as the connection has had when that stay begins
abbrev pub NotesFeeds : ℕ → ℕ → ℕ → List Element → SynchAct → List Act → Type 0
NotesFeeds squeues spread q H (Done.In c) note = fed note ≡ stay_of squeues q c (times_in c (map (λ e. e.mark) H)) * spread
NotesFeeds squeues spread q H _ note = Unit {0}

-- no connection came or left so often that its counts don't say it
abbrev pub AreFew : List GuestOf → Type 0
AreFew gs = (c : ℕ) (g : GuestOf) → slice_get gs c ≡ Some g → (g.came < 2 ^ 40) × (g.left + 1 < 2 ^ 64)

-- there is such a connection
abbrev pub HasGuest : List GuestOf → ℕ → (GuestOf → Type 0) → Type 0
HasGuest gs c P = (g : GuestOf) × (slice_get gs c ≡ Some g) × P g

-- what an act of pass p needs, where the connections stand so after what was processed
abbrev pub ActMay : Setting → List GuestOf → ℕ → SynchAct → Type 0
ActMay S gs p (Done.Call c j k) = (p < worker S) × (p ≡ S.rings + j) × HasGuest gs c (λ g. g.here ≡ true) × Contains S.limits.calls (c, j, k)
ActMay S gs p Done.Away = (p < worker S) × (S.rings ≤ p)
ActMay S gs p (Done.Out c) = (p < worker S) × (p ≡ c % S.rings) × HasGuest gs c
    (λ g. (g.here ≡ true) × (g.left < slice_index S.limits.leaves c) × (g.queued ≡ 0))
ActMay S gs p (Done.In c) = (p < worker S) × (p ≡ c % S.rings) × HasGuest gs c (λ g. g.here ≡ false)
ActMay S gs p _ = Unit {0}
