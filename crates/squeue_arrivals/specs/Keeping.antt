-- What stands at the places of a ring, and which key is at which of them.
use Rattle.std.specs.Prelude.{◌≡◌, ◌≢◌, ℕ, ◌+◌, ◌<◌, ◌≤◌, nat_eq, Option, None, Some, List, [], ◌∷◌, ◌++◌, Contains, length, slice_get, slice_index}
use Rattle.std.specs.HashSet.{IsUnique, spare}
use Rattle.turn_gate.specs.Passes.{number, seen}
use Rattle.turn_gate.specs.declared.pass.Pass.{Pass}
use Rattle.perimeter_core.specs.Deeds.{times_left}
use Rattle.perimeter_core.specs.History.{Element, Limits, Setting}
use Rattle.squeue_state.specs.Naming.{Named, setting_of}
use Rattle.stream_stays.specs.declared.place.Place.TheVariants.{Open, Vacant as Vacant'}
use Rattle.stream_stays.specs.declared.place.Stays.{Stays}
use Rattle.stream_stays.specs.declared.stay.Stay.{Stay}
use Rattle.stream_stays.specs.declared.stay.Vacant.{Vacant}
use Rattle.stream_stays.specs.Places.{Knows, chain_of, place_at, touched_of}
use Rattle.stream_stays.specs.Staying.{before_of, leaves_of, sent_of}
use Rattle.stream_stays.specs.Settling.{SameAt, sent_in}
use Rattle.rtrb.specs.Ring.{sent}
use Rattle.squeue_streams.specs.Taking.{most_leaves}
use Rattle.squeue_arrivals.specs.Arriving.{HasCause, items_for}
use Rattle.squeue_arrivals.specs.Keyed.{IsFirst}
use Rattle.squeue_arrivals.specs.Placed.{keys_in, most_in, place_of}
use Rattle.squeue_arrivals.specs.Stayed.{WasFed}
use Rattle.squeue_arrivals.specs.declared.served.Refused.{Refused}
use Rattle.squeue_arrivals.specs.declared.ring_keys.RingKeys.{RingKeys}
use Rattle.squeue_arrivals.specs.declared.steps.Keyed.{Keyed}

module _ {T S : Type 0} where
  -- the part of the place is at no squeue
  abbrev pub IsVacant : Stays T S → ℕ → Type 0
  IsVacant st c = (v : Vacant T S) × (place_at st c ≡ Some (Vacant' v))

  -- it was at none yet, and nothing was sent there
  pub record IsUnused (at : Setting) (st : Stays T S) (c : ℕ) : Type 0 where
    pub vacant : Vacant T S
    pub is_vacant : place_at st c ≡ Some (Vacant' vacant)
    pub none : sent vacant.producer ≡ []
    pub leaves : (most_leaves ≤ vacant.leaves) × (slice_index at.limits.leaves c ≤ vacant.leaves)

  -- Its part stays at the squeue, and these items were sent there. In what the pass has seen, its stays before this one had a feed for each of
  -- those that were sent before it. It may leave still, as often as at first but for so many times; and as often as it may no more it left
  pub record Serves (at : Setting) (p : Pass Element) (st : Stays T S) (c : ℕ) (items : List T) (times : ℕ) : Type 0 where
    pub stay : Stay T
    pub is_open : place_at st c ≡ Some (Open stay)
    pub its_items : sent_of stay ≡ items
    pub before : WasFed at (number p) c (length (before_of stay)) (seen p)
    pub leaves : most_leaves ≤ leaves_of stay + times
    pub left : slice_index at.limits.leaves c ≤ times_left c (seen p) + leaves_of stay

  -- each place has the same, and the same was sent there; or each but one
  abbrev pub Keeps : Stays T S → Stays T S → Type 0
  Keeps a b = (d : ℕ) → SameAt (place_at a d) (place_at b d)

  abbrev pub KeepsBut : ℕ → Stays T S → Stays T S → Type 0
  KeepsBut c a b = (d : ℕ) → d ≢ c → SameAt (place_at a d) (place_at b d)

-- no two of the keys are one, there are no more than places, and each of these items is of one of them
pub record IsTable {T : Type 0} (all : List (ℕ × T)) (k : RingKeys) : Type 0 where
  pub few : length (keys_in k) ≤ most_in k
  pub room : most_in k ≤ spare k.set + length (keys_in k)
  pub distinct : IsUnique nat_eq k.set
  pub every : (key : ℕ) → items_for key all ≢ [] → Contains (keys_in k) key

module _ {T : Type 0} (all : List (ℕ × T)) (k : RingKeys) where
  -- an item of each key came; or of each other key
  abbrev pub AllCame : Type 0
  AllCame = (i key : ℕ) → slice_get (keys_in k) i ≡ Some key → items_for key all ≢ []

  abbrev pub AllCameBut : ℕ → Type 0
  AllCameBut but = (i key : ℕ) → slice_get (keys_in k) i ≡ Some key → key ≢ but → items_for key all ≢ []

module _ {W T S : Type 0} (step : Keyed W T S → S → T → S → Type 0) {R : Type 0} (limits : R → Limits) (s : Named R) (o : Keyed W T S) where
  -- all that was pushed is entered and settled
  pub record IsSettled (p : Pass Element) (st : Stays T S) : Type 0 where
    pub knows : Knows IsFirst step limits s o p st
    pub entered : chain_of st ≡ []
    pub settled : touched_of st ≡ []

  -- Each key has its place, where all its items of these were sent, and which was renewed no more often than they are; each other place is unused
  pub record HasKeys (all : List (ℕ × T)) (p : Pass Element) (st : Stays T S) (k : RingKeys) : Type 0 where
    pub knows : Knows IsFirst step limits s o p st
    pub table : IsTable all k
    pub at : (i key : ℕ) → slice_get (keys_in k) i ≡ Some key
        → Serves (setting_of limits s.given) p st (place_of k i) (items_for key all) (length (items_for key all))
    pub free : (i : ℕ) → length (keys_in k) ≤ i → i < most_in k → IsUnused (setting_of limits s.given) st (place_of k i)

  -- and an item of each key came
  abbrev pub HasAll : List (ℕ × T) → Pass Element → Stays T S → RingKeys → Type 0
  HasAll all p st k = HasKeys all p st k × AllCame all k

  -- a key has a place, or there is none for it
  pub record HasSeated (all : List (ℕ × T)) (key : ℕ) (p : Pass Element) (st : Stays T S) (k : RingKeys) (place : Option ℕ) : Type 0 where
    pub keys : HasKeys all p st k
    pub came : AllCameBut all k key
    pub none : place ≡ None → (length (keys_in k) ≡ most_in k) × (items_for key all ≡ []) × AllCame all k

  -- an item came to its key, or was refused
  abbrev pub HasArrived : List (ℕ × T) → ℕ → T → Pass Element → Stays T S → RingKeys → Option (Refused T) → Type 0
  HasArrived all key item p st k None = HasAll (all ++ (key, item) ∷ []) p st k
  HasArrived all key item p st k (Some r) = HasAll all p st k × (r.key ≡ key) × (r.item ≡ item)
      × HasCause r.cause (most_in k) (length (keys_in k)) all key

  -- The parts of all keys are at no squeue any more. In what the pass has seen, the stays of each had a feed for each of its items
  pub record AreClosed (all : List (ℕ × T)) (p : Pass Element) (st : Stays T S) (k : RingKeys) : Type 0 where
    pub knows : Knows IsFirst step limits s o p st
    pub at : (i key : ℕ) → slice_get (keys_in k) i ≡ Some key
        → IsVacant st (place_of k i) × (sent_in (place_at st (place_of k i)) ≡ items_for key all)
        × WasFed (setting_of limits s.given) (number p) (place_of k i) (length (items_for key all)) (seen p)
