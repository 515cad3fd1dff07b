-- What contracts see of the places of a pass, and what the pass knows of them.
use Rattle.std.proofs.Common.{Global}
use Rattle.std.specs.Prelude.{◌≡◌, ◌≢◌, ℕ, ◌+◌, ◌%◌, ◌≤◌, ◌<◌, ◌⊎◌, true, Option, Some, List, Contains, length, slice_get, slice_index, vec_capacity}
use Rattle.rtrb.specs.declared.AnyItems.{AnyItems}
use Rattle.rtrb.specs.declared.consumer.Consumer.{Consumer}
use Rattle.rtrb.specs.Ring.{sent}
use Rattle.turn_gate.specs.Passes.{number, seen}
use Rattle.turn_gate.specs.declared.pass.Pass.{Pass}
use Rattle.perimeter_core.specs.declared.entries.Feed.{Feed as FeedOf}
use Rattle.perimeter_core.specs.Perimeter.{is_here}
use Rattle.perimeter_core.specs.History.{Element, Limits, feed_quota, run}
use Rattle.perimeter_core.specs.Deeds.{due, entries, feeds_of, times_left}
use Rattle.perimeter_core.specs.Legal.{Enters, feeds_by}
use Rattle.squeue_state.specs.Naming.{Named, setting_of}
use Rattle.squeue_state.specs.declared.guarded.Life.{Life}
use Rattle.squeue_streams.specs.Taking.{IsStreamOf, items_of, most_feeds}
use Rattle.stream_stays.specs.declared.place.Place.{Place}
use Rattle.stream_stays.specs.declared.place.Place.TheVariants.{Open, Out, Vacant as Vacant'}
use Rattle.stream_stays.specs.declared.place.Stays.{Stays}
use Rattle.stream_stays.specs.declared.stay.Stay.{Stay}
use Rattle.stream_stays.specs.declared.stay.Vacant.{Vacant}
use Rattle.stream_stays.specs.Staying.{HasLife, IsAway, IsOfRing, entered_of, leaves_of, producer_of, pushed_of, stream_of}

module _ {T S : Type 0} where
  -- what is at each place, and what is left of the life of the pass
  abbrev pub places_of : Stays T S → List (Place T S)
  places_of st = st.places.items

  abbrev pub life_of : Stays T S → Life
  life_of st = st.life

  -- the feeds of items that are pushed and not entered, and the places of all items that were pushed since the places were settled
  abbrev pub chain_of : Stays T S → List FeedOf
  chain_of st = st.chain.items

  abbrev pub touched_of : Stays T S → List ℕ
  touched_of st = st.touched.items

  -- so many feeds are entered at once at most, and so many items pushed until the places are settled
  abbrev pub chain_room : Stays T S → ℕ
  chain_room st = vec_capacity st.chain

  abbrev pub touched_room : Stays T S → ℕ
  touched_room st = vec_capacity st.touched

  abbrev pub place_at : Stays T S → ℕ → Option (Place T S)
  place_at st c = slice_get (places_of st) c

  -- a part is there; or it is at no squeue, and may leave one more
  abbrev pub IsOpen : Stays T S → ℕ → Type 0
  IsOpen st c = (stay : Stay T) × (place_at st c ≡ Some (Open stay))

  abbrev pub CanOpen : Stays T S → ℕ → Type 0
  CanOpen st c = (v : Vacant T S) × (place_at st c ≡ Some (Vacant' v)) × (1 ≤ v.leaves)

  -- as many feeds wait as are entered at once, or as many items were pushed as may be until the places are settled, or the life is over
  abbrev pub HasNoRoom : Stays T S → Type 0
  HasNoRoom st = (length (chain_of st) ≡ vec_capacity st.chain) ⊎ (length (touched_of st) ≡ vec_capacity st.touched) ⊎ ((life_of st).feeds ≡ 0)

  abbrev pub HasRoom : Stays T S → Type 0
  HasRoom st = (length (chain_of st) < vec_capacity st.chain) × (length (touched_of st) < vec_capacity st.touched) × (0 < (life_of st).feeds)

  -- nothing changed but at this place
  pub record SameElsewhere (c : ℕ) (a b : Stays T S) : Type 0 where
    pub count : length (places_of b) ≡ length (places_of a)
    pub others : (d : ℕ) → d ≢ c → place_at b d ≡ place_at a d

  -- nothing changed but at places
  pub record SameButPlaces (a b : Stays T S) : Type 0 where
    pub life : life_of b ≡ life_of a
    pub chain : b.chain ≡ a.chain
    pub touched : b.touched ≡ a.touched

module _ {T S O : Type 0} (begins : O → ℕ → Consumer T Global AnyItems → S → Type 0) (step : O → S → T → S → Type 0) where
  module _ {R : Type 0} (limits : R → Limits) (s : Named R) (o : O) where
    -- The part of place c is at no squeue, both ends of its ring are here, and the ring is empty
    pub record VacantAt (p : Pass Element) (c : ℕ) (v : Vacant T S) : Type 0 where
      pub stream : v.stream ≡ c
      pub away : IsAway limits s p v.stream v.leaves
      pub part : IsStreamOf begins step o v.stream v.part
      pub ring : IsOfRing begins o v.stream v.producer
      pub empty : items_of v.part ≡ sent v.producer

    -- The part of place c is at the squeue. Of the items that were pushed since it came just those of the chain are not entered
    pub record OpenAt (p : Pass Element) (chain : List FeedOf) (c : ℕ) (stay : Stay T) : Type 0 where
      pub stream : stream_of stay ≡ c
      pub its_ring : number p ≡ stream_of stay % s.given.rings
      pub range : stream_of stay < length s.given.starts
      pub here : is_here (run (setting_of limits s.given) (seen p)) (stream_of stay) ≡ true
      pub due : due (seen p) (stream_of stay) + length (feeds_of (stream_of stay) (entries chain)) ≡ pushed_of stay
      pub handed : entered_of stay ≡ pushed_of stay
      pub numbers : most_feeds ≤ slice_index (limits s.given.first).feeds (stream_of stay)
      pub leaves : (1 ≤ leaves_of stay) × (times_left (stream_of stay) (seen p) + leaves_of stay ≤ slice_index (limits s.given.first).leaves (stream_of stay))
      pub ring : IsOfRing begins o (stream_of stay) (producer_of stay)

    abbrev pub IsPlace : Pass Element → List FeedOf → ℕ → Place T S → Type 0
    IsPlace p chain c (Vacant' v) = VacantAt p c v
    IsPlace p chain c (Open stay) = OpenAt p chain c stay
    IsPlace p chain c Out = Unit {0}

    -- The pass may enter the chain, has what is left of its life beside it, and knows this of each of its places
    pub record Knows (p : Pass Element) (st : Stays T S) : Type 0 where
      pub life : HasLife limits s (life_of st) p
      pub chain : Enters (setting_of limits s.given) (run (setting_of limits s.given) (seen p)) (number p) (due (seen p)) (entries (chain_of st))
      pub quota : feeds_by (number p) (seen p) + length (chain_of st) + (life_of st).feeds ≤ feed_quota (setting_of limits s.given) (number p)
      pub each : (c : ℕ) (place : Place T S) → place_at st c ≡ Some place → IsPlace p (chain_of st) c place
      pub touched : (c : ℕ) → Contains (touched_of st) c → IsOpen st c
