-- What the marks that enter something are read off and do, over what is kept in memory.
use Rattle.std.specs.Prelude.{◌≡◌, ◌≢◌, ℕ, ◌+◌, ◌-◌, ◌^◌, ◌%◌, ◌<◌, Bool, true, false, if◌then◌else◌, MatchBool}
use Rattle.std.specs.Prelude.{Some, List, [], ◌∷◌, ◌++◌, min, slice_get, slice_index, slice_set}
use Rattle.perimeter_core.specs.declared.entries.Feed.{Feed}
use Rattle.perimeter_core.specs.declared.entries.Entry.TheVariants as Entered
use Rattle.perimeter_core.specs.declared.marks.Mark.{Mark}
use Rattle.perimeter_core.specs.declared.marks.Own.TheVariants.{Out, Granted}
use Rattle.perimeter_core.specs.History.{Element, Setting}
use Rattle.perimeter_core.specs.Legal.{May}
use Rattle.squeue_replay.specs.Standing.{GuestOf, PassOf, SqueueOf, Stands}

-- the pass may enter, ask or close
pub record IsIdle (p : ℕ) (s : SqueueOf) : Type 0 where
  pub pass : PassOf
  pub was : slice_get s.passes p ≡ Some pass
  pub open_pass : pass.closed ≡ false
  pub waits_not : pass.waiting ≡ false
  pub no_owner : s.own ≢ Out p
  pub not_granted : s.own ≢ Granted p

-- The feed is the next one of its connection, which is here and the ring's, and the ring has one left
pub record IsNext (S : Setting) (p : ℕ) (f : Feed) (s : SqueueOf) : Type 0 where
  pub pass : PassOf
  pub guest : GuestOf
  pub was_pass : slice_get s.passes p ≡ Some pass
  pub was_guest : slice_get s.guests f.c ≡ Some guest
  pub ring : p ≡ f.c % S.rings
  pub left : 0 < pass.feeds
  pub here : guest.here ≡ true
  pub next : f.n ≡ guest.due
  pub below : f.n < slice_index S.limits.feeds f.c

-- The feed is counted and queued
pub record QueuesOne (S : Setting) (p : ℕ) (f : Feed) (s t : SqueueOf) : Type 0 where
  pub first : IsNext S p f s
  pub is : t ≡ record s {
    chain = s.chain ++ Entered.Feed f.c f.n ∷ [];
    passes = slice_set s.passes p (record first.pass { feeds = first.pass.feeds - 1 });
    guests = slice_set s.guests f.c (record first.guest { due = first.guest.due + 1; queued = min (first.guest.queued + 1) (2 ^ 64 - 1) });
  }

-- so are these feeds, one after another
abbrev pub Queues : Setting → ℕ → List Feed → SqueueOf → SqueueOf → Type 0
Queues S p [] s t = t ≡ s
Queues S p (f ∷ fs) s t = (u : SqueueOf) × QueuesOne S p f s u × Queues S p fs u t

-- The pass has an Ask left; it is counted and queued
pub record QueuesAsk (p : ℕ) (s t : SqueueOf) : Type 0 where
  pub pass : PassOf
  pub was : slice_get s.passes p ≡ Some pass
  pub left : 0 < pass.asks
  pub is : t ≡ record s {
    chain = s.chain ++ Entered.Ask p ∷ [];
    passes = slice_set s.passes p (record pass { asks = pass.asks - 1; waiting = true });
  }

-- one more mark without a note: the squeue stands for the longer history, or the mark may not follow
abbrev pub Follows : Setting → List Element → SqueueOf → Mark → Bool → Type 0
Follows S H t m legal = MatchBool legal (Stands S (H ++ record { mark = m; note = [] } ∷ []) t) (May S H (record { mark = m; note = [] }) → ⊥)

-- a pass and a connection before the first mark
abbrev pub first_pass : ℕ × ℕ → PassOf
first_pass q = record { closed = false; waiting = false; feeds = q.0; asks = q.1 }

abbrev pub first_guest : Bool → GuestOf
first_guest here = record { here = here; due = 0; queued = 0; left = 0; came = 0; did = if here then [] ∷ [] else [] }

-- numbers of feeds are of 32 bits
abbrev pub AreSmall : List Feed → Type 0
AreSmall [] = Unit {0}
AreSmall (f ∷ fs) = (f.n < 2 ^ 32) × AreSmall fs
