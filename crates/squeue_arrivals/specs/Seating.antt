-- How places are made and dealt to rings, and what their squeue is made with.
use Rattle.std.specs.Prelude.{◌≡◌, ◌≢◌, ℕ, ◌-◌, ◌%◌, ◌^◌, ◌<◌, ◌≤◌, ◌++◌, Bool, true, false, Some, List, [], length}
use Rattle.std.specs.Prelude.{replicate, slice_get, slice_index, slice_index_or}
use Rattle.std.proofs.Common.{Global}
use Rattle.rtrb.specs.declared.AnyItems.{AnyItems}
use Rattle.rtrb.specs.declared.producer.Producer.{Producer}
use Rattle.rtrb.specs.Ring.{IsPair, known_free, received, sent}
use Rattle.perimeter_core.specs.History.{Limits}
use Rattle.squeue_state.specs.Naming.{Given}
use Rattle.squeue_streams.specs.declared.streams.Stream.{Stream}
use Rattle.squeue_streams.specs.Taking.{count_of, input_of, most_feeds, most_leaves}
use Rattle.stream_stays.specs.declared.place.Place.{Place}
use Rattle.stream_stays.specs.declared.place.Place.TheVariants.{Out, Vacant}
use Rattle.stream_stays.specs.declared.place.Stays.{Stays}
use Rattle.stream_stays.specs.Places.{chain_of, chain_room, life_of, places_of, touched_of, touched_room}

-- so much a ring's pass may enter and ask in its life
abbrev pub one_life : ℕ × ℕ
one_life = (2 ^ 52, 2 ^ 52)

-- and so much one of the passes of who looks, behind them
abbrev pub looker_life : ℕ × ℕ
looker_life = (0, 2 ^ 32)

abbrev pub lives_of : ℕ → ℕ → List (ℕ × ℕ)
lives_of rings lookers = replicate rings one_life ++ replicate lookers looker_life

-- how many look at a squeue, by whether one does
abbrev pub lookers_of : Bool → ℕ
lookers_of true = 1
lookers_of false = 0

-- so many feeds a squeue has room for, with an Ask of each pass behind them
abbrev pub room_of : {R : Type 0} → Given R → ℕ
room_of g = g.room - length g.quotas

module _ {T S : Type 0} where
  -- the two ends of one ring, which has room, and into which nothing was pushed
  pub record IsNewPair (producer : Producer T Global AnyItems) (part : Stream T S) : Type 0 where
    pub pair : IsPair producer (input_of part)
    pub unsent : sent producer ≡ []
    pub room : 1 ≤ known_free producer
    pub none : received (input_of part) ≡ []
    pub uncounted : count_of part ≡ 0

  -- there are so many of each, and those of one number are a pair
  pub record AreNewPairs (count : ℕ) (producers : List (Producer T Global AnyItems)) (parts : List (Stream T S)) : Type 0 where
    pub many : (length producers ≡ count) × (length parts ≡ count)
    pub each : (c : ℕ) (producer : Producer T Global AnyItems) (part : Stream T S) → slice_get producers c ≡ Some producer
        → slice_get parts c ≡ Some part → IsNewPair producer part

  -- No key was ever at this place: the part of its number lies at it, and the other end of that part's ring. It may be left so often
  pub record IsNewPlace (parts : List (Stream T S)) (c : ℕ) (place : Place T S) : Type 0 where
    pub producer : Producer T Global AnyItems
    pub part : Stream T S
    pub its_part : slice_get parts c ≡ Some part
    pub new : IsNewPair producer part
    pub place_is : place ≡ Vacant (record { producer = producer; part = part; stream = c; leaves = most_leaves })

  pub record AreNewPlaces (parts : List (Stream T S)) (places : List (Place T S)) : Type 0 where
    pub many : length places ≡ length parts
    pub each : (c : ℕ) (place : Place T S) → slice_get places c ≡ Some place → IsNewPlace parts c place

  -- Of these places each that is the ring's is here, at its number, and the others are out. Place c is that of ring c modulo rings
  pub record AreOwnPlaces (rings ring : ℕ) (all own : List (Place T S)) : Type 0 where
    pub many : length own ≡ length all
    pub here : (c : ℕ) (place : Place T S) → slice_get own c ≡ Some place → c % rings ≡ ring → slice_get all c ≡ Some place
    pub others : (c : ℕ) (place : Place T S) → slice_get own c ≡ Some place → c % rings ≢ ring → place ≡ Out

  -- nothing waits and nothing was touched; a feed may wait, and no more of them than there is room for; and a place may be touched
  pub record IsIdle (room : ℕ) (stays : Stays T S) : Type 0 where
    pub none : (chain_of stays ≡ []) × (touched_of stays ≡ [])
    pub at_once : (1 ≤ chain_room stays) × (chain_room stays ≤ room)
    pub touched : 1 ≤ touched_room stays

  -- a ring's pass begins with its own of these places and a whole life, at a squeue with so much room, and nothing was pushed
  pub record AreOwnStays (rings ring room : ℕ) (all : List (Place T S)) (stays : Stays T S) : Type 0 where
    pub own : AreOwnPlaces rings ring all (places_of stays)
    pub life : ((life_of stays).feeds ≡ one_life.0) × ((life_of stays).asks ≡ one_life.1)
    pub idle : IsIdle room stays

  -- the same of places with these parts, where no key was ever
  pub record AreNewStays (rings ring room : ℕ) (parts : List (Stream T S)) (stays : Stays T S) : Type 0 where
    pub count : length (places_of stays) ≡ length parts
    pub own : (c : ℕ) (place : Place T S) → slice_get (places_of stays) c ≡ Some place → c % rings ≡ ring → IsNewPlace parts c place
    pub others : (c : ℕ) (place : Place T S) → slice_get (places_of stays) c ≡ Some place → c % rings ≢ ring → place ≡ Out
    pub life : ((life_of stays).feeds ≡ one_life.0) × ((life_of stays).asks ≡ one_life.1)
    pub idle : IsIdle room stays

-- A squeue with so many rings and so many places, whose parts are elsewhere at its start: each may have so many feeds each time that it is
-- put in, and leave so often; and each ring's pass has a whole life. Behind
-- these are passes of who looks
pub record ServesPlaces {R : Type 0} (limits : R → Limits) (g : Given R) (rings count : ℕ) : Type 0 where
  pub its_rings : g.rings ≡ rings
  pub few : 1 ≤ rings
  pub lookers : ℕ
  pub quotas : g.quotas ≡ lives_of rings lookers
  pub conns : length g.starts ≡ count
  pub away : (c : ℕ) → slice_index_or g.starts c false ≡ false
  pub feeds : (c : ℕ) → c < count → most_feeds ≤ slice_index (limits g.first).feeds c
  pub leaves : (c : ℕ) → c < count → slice_index (limits g.first).leaves c ≡ most_leaves
