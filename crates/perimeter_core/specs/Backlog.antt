-- What is entered and not processed yet: the words of the laws on order, wake, numbers, asks and room.
use Rattle.std.specs.Prelude.{◌≡◌, ◌≢◌, ℕ, ◌+◌, ◌<◌, ◌↔◌, ◌⊎◌, true, false, if◌then◌else◌, ◌==◌, List, [], ◌∷◌, ◌++◌, suc, zero, slice_index}
use Rattle.perimeter_core.specs.declared.entries.Entry.{Entry}
use Rattle.perimeter_core.specs.declared.entries.Entry.TheVariants.{Feed, Ask}
use Rattle.perimeter_core.specs.declared.marks.Own.TheVariants.{Free, Out, Granted}
use Rattle.perimeter_core.specs.Perimeter.{State, is_here, has_ask}
use Rattle.perimeter_core.specs.History.{Element, Setting, worker, passes, conns, feed_quotas, run}
use Rattle.perimeter_core.specs.Deeds.{feeds_of, entered, done}

-- what is entered and not processed
abbrev pub queue : State → List Entry
queue s = s.hand ++ s.chain

-- Each entry is processed, in the hand or in the chain, in the order entered
abbrev pub OrderKept : Setting → List Element → Type 0
OrderKept S H = entered H ≡ done S H ++ queue (run S H)

-- A wake is recorded exactly where the chain waits and nobody comes for it; only an owner has a hand
pub record WakeKept (s : State) : Type 0 where
  pub wake : (s.wake ≡ true) ↔ ((s.own ≡ Free) × (s.chain ≢ []))
  pub hand : s.hand ≢ [] → (p : ℕ) × (s.own ≡ Out p)

-- a, a + 1, and so on: k numbers
abbrev pub up : ℕ → ℕ → List ℕ
up a zero = []
up a (suc k) = a ∷ up (suc a) k

-- The queued feeds of c are numbered consecutively and end just below the next number; where there is one, c is here
pub record FeedsInOrder (s : State) (c next : ℕ) : Type 0 where
  pub first : ℕ
  pub count : ℕ
  pub numbers : feeds_of c (queue s) ≡ up first count
  pub ends : first + count ≡ next
  pub here : feeds_of c (queue s) ≢ [] → is_here s c ≡ true

-- what stands behind the first Ask of p
abbrev pub behind : ℕ → List Entry → List Entry
behind p [] = []
behind p (Feed c n ∷ es) = behind p es
behind p (Ask q ∷ es) = if q == p then es else behind p es

-- No feed of connection c stands behind a queued Ask of ring r; nor is one queued while r is granted, or owner by Accept
pub record NoneBehind (s : State) (r c : ℕ) : Type 0 where
  pub asked : feeds_of c (behind r (queue s)) ≡ []
  pub granted : s.own ≡ Granted r → feeds_of c (queue s) ≡ []
  pub owner : s.own ≡ Out r → s.hand ≡ [] → feeds_of c (queue s) ≡ []

-- what a queue has to have room for: all feeds of the quotas, and one Ask of each pass
abbrev pub room : Setting → ℕ
room S = feed_quotas S.quotas + passes S

-- what is queued names only connections and passes that there are, feeds below their limits, and no Ask of the worker's
abbrev pub QueuedInRange : Setting → List Entry → Type 0
QueuedInRange S [] = Unit {0}
QueuedInRange S (Feed c n ∷ es) = (c < conns S) × (n < slice_index S.limits.feeds c) × QueuedInRange S es
QueuedInRange S (Ask p ∷ es) = (p < worker S) × QueuedInRange S es

-- Who is owner or granted waits no more: its Ask is queued nowhere, unless it claimed with it, as the last entry of its hand
pub record WaitsNoMore (s : State) (p : ℕ) : Type 0 where
  pub owner_chain : s.own ≡ Out p → has_ask p s.chain ≡ false
  pub owner_hand : s.own ≡ Out p → (has_ask p s.hand ≡ false) ⊎ ((front : List Entry) × (s.hand ≡ front ++ Ask p ∷ []) × (has_ask p front ≡ false))
  pub granted : s.own ≡ Granted p → has_ask p (queue s) ≡ false
