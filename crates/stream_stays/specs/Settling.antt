-- What a thread learns where it settles its places, and where it closes one.
use Rattle.std.proofs.Common.{Global}
use Rattle.std.specs.Prelude.{◌≡◌, ℕ, Option, Some, List, [], ◌∷◌}
use Rattle.rtrb.specs.declared.AnyItems.{AnyItems}
use Rattle.rtrb.specs.declared.consumer.Consumer.{Consumer}
use Rattle.rtrb.specs.Ring.{sent}
use Rattle.perimeter_core.specs.Blocks.{Blocks}
use Rattle.perimeter_core.specs.Residing.{Here}
use Rattle.placed_parts.specs.declared.parts.Parts.{Ghosts}
use Rattle.placed_parts.specs.declared.places.Places.{Places}
use Rattle.placed_parts.specs.Placing.{Stands, limits_of, origin_of, size_of}
use Rattle.squeue_streams.specs.declared.streams.Stream.{Stream}
use Rattle.squeue_streams.specs.Taking.{IsStreamOf, items_of, state_of}
use Rattle.stream_stays.specs.declared.place.Place.{Place}
use Rattle.stream_stays.specs.declared.place.Place.TheVariants.{Open, Vacant as Vacant'}
use Rattle.stream_stays.specs.declared.place.Stays.{Stays}
use Rattle.stream_stays.specs.declared.stay.Stay.{Stay}
use Rattle.stream_stays.specs.Staying.{IsOfRing, SameStay, entered_of, producer_of, pushed_of, sent_of}
use Rattle.stream_stays.specs.Places.{chain_of, place_at}

module _ {T : Type 0} where
  -- the same stay, in which the same was pushed
  pub record SameSent (a b : Stay T) : Type 0 where
    pub stay : SameStay a b
    pub sent : sent_of b ≡ sent_of a
    pub pushed : pushed_of b ≡ pushed_of a
    pub entered : entered_of b ≡ entered_of a

module _ {T S : Type 0} where
  abbrev pub SameAt : Option (Place T S) → Option (Place T S) → Type 0
  SameAt (Some (Open a)) (Some (Open b)) = SameSent a b
  SameAt (Some (Open a)) is = ⊥
  SameAt was is = is ≡ was

  -- the same is at each place, and the same was pushed
  pub record SamePlaces (a b : Stays T S) : Type 0 where
    pub chain : chain_of b ≡ chain_of a
    pub each : (c : ℕ) → SameAt (place_at a c) (place_at b c)

  -- all items that were ever pushed at a place of the pass, oldest first
  abbrev pub sent_in : Option (Place T S) → List T
  sent_in (Some (Open stay)) = sent_of stay
  sent_in (Some (Vacant' v)) = sent v.producer
  sent_in _ = []

module _ {V T S O : Type 0} (begins : O → ℕ → Consumer T Global AnyItems → S → Type 0) (step : O → S → T → S → Type 0)
    (takes : V → V → ℕ → S → Type 0) (o : O) where
  -- The collector was shown the state at place c, which the steps had made of all these items
  pub record WasCollected (from to : V) (c : ℕ) (sent : List T) : Type 0 where
    pub part : Stream T S
    pub its_own : IsStreamOf begins step o c part
    pub all : items_of part ≡ sent
    pub took : takes from to c (state_of part)

  -- it did so at each of these places, in order
  abbrev pub Collected : Stays T S → List ℕ → V → V → Type 0
  Collected st [] from to = to ≡ from
  Collected st (c ∷ cs) from to = (next : V) × WasCollected from next c (sent_in (place_at st c)) × Collected st cs next to

module _ {X T S O : Type 0} {G : Ghosts X (Stream T S) O} where
  -- the resident stands for whatever it stood for, and is of the same size, limits and origin
  pub record KeepsParts (was is : Places X (Stream T S) O G) : Type 0 where
    pub stands : (blocks : Blocks) → Stands was blocks → Stands is blocks
    pub limits : limits_of is ≡ limits_of was
    pub size : size_of is ≡ size_of was
    pub origin : origin_of is ≡ origin_of was

  -- the part of place c is here, and the other end of its ring is at hand
  pub record MaySettle (begins : O → ℕ → Consumer T Global AnyItems → S → Type 0) (r : Places X (Stream T S) O G) (st : Stays T S) (c : ℕ) : Type 0 where
    pub here : Here (Stands r) c
    pub stay : Stay T
    pub is_open : place_at st c ≡ Some (Open stay)
    pub ring : IsOfRing begins (origin_of r) c (producer_of stay)
