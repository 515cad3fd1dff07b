-- What a pass knows of its places at first.
use Rattle.std.proofs.Common.{Global}
use Rattle.std.specs.Prelude.{◌≡◌, ℕ, ◌%◌, ◌≤◌, ◌<◌, false, Some, [], length, slice_index, slice_index_or}
use Rattle.rtrb.specs.declared.AnyItems.{AnyItems}
use Rattle.rtrb.specs.declared.consumer.Consumer.{Consumer}
use Rattle.rtrb.specs.Ring.{sent}
use Rattle.turn_gate.specs.Passes.{IsPassOf, number, seen}
use Rattle.turn_gate.specs.declared.pass.Pass.{Pass}
use Rattle.perimeter_core.specs.History.{Element, Limits, ask_quota, feed_quota}
use Rattle.histories.specs.Elements.{number_of}
use Rattle.squeue_state.specs.Naming.{Named, setting_of}
use Rattle.squeue_streams.specs.Taking.{IsStreamOf, items_of, most_feeds}
use Rattle.stream_stays.specs.declared.place.Place.{Place}
use Rattle.stream_stays.specs.declared.place.Place.TheVariants.{Open, Out, Vacant as Vacant'}
use Rattle.stream_stays.specs.declared.place.Stays.{Stays}
use Rattle.stream_stays.specs.declared.stay.Vacant.{Vacant}
use Rattle.stream_stays.specs.Staying.{IsOfRing}
use Rattle.stream_stays.specs.Places.{Knows, chain_of, life_of, place_at, touched_of}

module _ {T S O : Type 0} (begins : O → ℕ → Consumer T Global AnyItems → S → Type 0) (step : O → S → T → S → Type 0) {R : Type 0}
    (limits : R → Limits) (s : Named R) (o : O) where
  -- The part of place c, which is of the pass's ring, is elsewhere at the start; both ends of its ring are here, and the ring is empty
  pub record IsNewVacant (p : Pass Element) (c : ℕ) (v : Vacant T S) : Type 0 where
    pub stream : v.stream ≡ c
    pub its_ring : number p ≡ c % s.given.rings
    pub range : c < length s.given.starts
    pub away : slice_index_or s.given.starts c false ≡ false
    pub numbers : most_feeds ≤ slice_index (limits s.given.first).feeds c
    pub leaves : v.leaves ≤ slice_index (limits s.given.first).leaves c
    pub part : IsStreamOf begins step o c v.part
    pub ring : IsOfRing begins o c v.producer
    pub empty : items_of v.part ≡ sent v.producer

  abbrev pub IsNewPlace : Pass Element → ℕ → Place T S → Type 0
  IsNewPlace p c (Vacant' v) = IsNewVacant p c v
  IsNewPlace p c (Open stay) = ⊥
  IsNewPlace p c Out = Unit {0}

  -- The pass has seen nothing and may enter and ask as often as these places tell; nothing was pushed, and no place is open
  pub record AreNew (p : Pass Element) (st : Stays T S) : Type 0 where
    pub pass : IsPassOf number_of s.gate p
    pub nothing : seen p ≡ []
    pub no_worker : number p < length s.given.quotas
    pub feeds : (life_of st).feeds ≤ feed_quota (setting_of limits s.given) (number p)
    pub asks : (life_of st).asks ≤ ask_quota (setting_of limits s.given) (number p)
    pub none : (chain_of st ≡ []) × (touched_of st ≡ [])
    pub each : (c : ℕ) (place : Place T S) → place_at st c ≡ Some place → IsNewPlace p c place

  abbrev pub NewPassesKnow : Type 0
  NewPassesKnow = (p : Pass Element) (st : Stays T S) → AreNew p st → Knows begins step limits s o p st
