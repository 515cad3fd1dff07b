-- What the squeues kept of a connection, stay by stay, and what giving it to its block leads to. Stay s of connection c is at squeue
-- (c + s) mod squeues, as its stay s div squeues there.
use Rattle.std.specs.Prelude.{◌≡◌, ℕ, zero, suc, ◌+◌, ◌/◌, ◌%◌, ◌<◌, ◌≤◌, ◌==◌, ◌⊎◌, if◌then◌else◌, nat_lt}
use Rattle.std.specs.Prelude.{Bool, true, false, Contains, Option, Some, None, List, [], ◌++◌, ◌∷◌, map, slice_get, Vec}
use Rattle.std.specs.declared.alloc.Global.{Global}
use Rattle.perimeter_core.specs.declared.entries.Act.{Act}
use Rattle.perimeter_core.specs.declared.entries.Act.TheVariants as Did
use Rattle.perimeter_core.specs.Blocks.{Blocks as Had, longer}
use Rattle.conn_classifier.specs.Plan.{PlanOf}
use Rattle.conn_blocks.specs.CallLists.{CallLists}
use Rattle.conn_blocks.specs.Holding.{StandsFor}
use Rattle.conn_blocks.specs.Orders.{IsWhole, settle}
use Rattle.conn_blocks.specs.ServeOrder.{BlockOf}
use Rattle.squeue_replay.specs.declared.guest.Guest.{Guest}
use Rattle.squeue_replay.specs.Standing.{GuestOf, guest_of}

abbrev pub kept_of : List (Vec Guest Global) → List (List GuestOf)
kept_of guests = map (λ gs. map guest_of gs.items) guests

abbrev pub guest_among : Option (List GuestOf) → ℕ → Option GuestOf
guest_among None c = None
guest_among (Some guests) c = slice_get guests c

abbrev pub did_at : Option GuestOf → ℕ → Option (List Act)
did_at None number = None
did_at (Some g) number = slice_get g.did number

abbrev pub has_left : Option GuestOf → ℕ → Bool
has_left None number = false
has_left (Some g) number = nat_lt number g.left

abbrev pub acts_in : Option (List Act) → List Act
acts_in None = []
acts_in (Some acts) = acts

module _ (squeues : ℕ) (kept : List (List GuestOf)) (c : ℕ) where
  -- the connection at the squeue of stay s
  abbrev pub guest_in : ℕ → Option GuestOf
  guest_in s = guest_among (slice_get kept ((c + s) % squeues)) c

  -- what was done to it in stay s, if there is one; whether it was taken out then
  abbrev pub did_in : ℕ → Option (List Act)
  did_in s = did_at (guest_in s) (s / squeues)

  abbrev pub left_in : ℕ → Bool
  left_in s = has_left (guest_in s) (s / squeues)

  -- what was done in the first n stays, one after another
  abbrev pub did_before : ℕ → List Act
  did_before zero = []
  did_before (suc n) = did_before n ++ acts_in (did_in n)

  -- there are n stays, each but the last one ended by taking the block out
  pub record HasStays (n : ℕ) : Type 0 where
    pub each : (s : ℕ) → s < n → (acts : List Act) × (did_in s ≡ Some acts)
    pub left : (s : ℕ) → s + 1 < n → left_in s ≡ true
    pub none_else : (s : ℕ) → n ≤ s → did_in s ≡ None

  -- there is a stay behind one that isn't there, or hasn't ended
  pub record LacksAStay : Type 0 where
    pub before : ℕ
    pub later : ℕ
    pub order : before < later
    pub acts : List Act
    pub there : did_in later ≡ Some acts
    pub lacks : (did_in before ≡ None) ⊎ (left_in before ≡ false)

  module _ (p : PlanOf) (calls : CallLists) where
    -- a block that was served in a whole order: what settles of all stays
    pub record HasOrder (b : BlockOf) : Type 0 where
      pub count : ℕ
      pub all : HasStays count
      pub stands : StandsFor p calls c (did_before count) b
      pub short : b.short ≡ false
      pub whole : IsWhole p calls c b.order

    -- what settles of all stays isn't whole
    pub record IsNotWhole : Type 0 where
      pub count : ℕ
      pub all : HasStays count
      pub whole : IsWhole p calls c (settle calls c (did_before count)) → ⊥

    abbrev pub HasNoOrder : Type 0
    HasNoOrder = LacksAStay ⊎ IsNotWhole

-- a call on connection c that is named; any feed
abbrev pub IsNamed : List (ℕ × ℕ × ℕ) → ℕ → Act → Type 0
IsNamed names c (Did.Feed n) = Unit {0}
IsNamed names c (Did.Call j k) = Contains names (c, j, k)

-- the feeds are numbers n, n + 1 and so on, each below this bound
abbrev pub FeedsFollow : ℕ → ℕ → List Act → Type 0
FeedsFollow bound n [] = Unit {0}
FeedsFollow bound n (Did.Feed m ∷ acts) = (m ≡ n) × (n < bound) × FeedsFollow bound (n + 1) acts
FeedsFollow bound n (Did.Call j k ∷ acts) = FeedsFollow bound n acts

-- the blocks after these acts more on connection c; without the block of c
abbrev pub with_acts : ℕ → List Act → Had → Had
with_acts c more had d = if c == d then longer more (had d) else had d

abbrev pub without : ℕ → Had → Had
without c had d = if c == d then None else had d
