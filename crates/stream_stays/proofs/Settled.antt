-- What holds of a part that has taken all, of a resident to which nothing else was done, and of the places.
use Rattle.std.proofs.Common.{◌≡◌, ◌≢◌, Global, ℕ, ◌==◌, Bool, true, false, if◌then◌else◌, Option, Some, None, List, [], refl, ap, sym, ◌∙◌, subst, arith}
use Rattle.std.specs.Prelude.{slice_get}
use Rattle.std.proofs.lemmas.Bool.Decides.{nat_tests}
use Rattle.rtrb.specs.declared.AnyItems.{AnyItems}
use Rattle.rtrb.specs.declared.consumer.Consumer.{Consumer}
use Rattle.perimeter_core.specs.declared.entries.Act.{Act}
use Rattle.perimeter_core.specs.declared.marks.SynchAct.TheVariants as Done
use Rattle.perimeter_core.specs.Blocks.{Blocks, with_act}
use Rattle.perimeter_core.specs.Deeds.{fed}
use Rattle.perimeter_core.specs.Residing.{Here, NotHere, feeds_in}
use Rattle.placed_parts.specs.declared.parts.Parts.{Ghosts}
use Rattle.placed_parts.specs.declared.places.Places.{Places}
use Rattle.placed_parts.specs.Placing.{MayBe, Stands, origin_of}
use Rattle.placed_parts.specs.Standing.{InOrder, PlaceAt}
use Rattle.placed_parts.specs.PlaceLaws.{places_same_feeds}
use Rattle.squeue_streams.specs.declared.streams.Stream.{Stream}
use Rattle.stream_stays.specs.declared.place.Place.{Place}
use Rattle.stream_stays.specs.declared.place.Place.TheVariants.{Open, Out, Vacant as Vacant'}
use Rattle.stream_stays.specs.declared.place.Stays.{Stays}
use Rattle.stream_stays.specs.declared.stay.Stay.{Stay}
use Rattle.stream_stays.specs.Staying.{IsOfRing, producer_of}
use Rattle.stream_stays.specs.Places.{SameElsewhere, chain_of, place_at}
use Rattle.stream_stays.specs.Settling.{KeepsParts, MaySettle, SameAt, SamePlaces, SameSent, sent_in}
use Rattle.stream_stays.proofs.Rings.{of_ring}

module _ {T : Type 0} where
  pub sent_self : (a : Stay T) → SameSent a a
  sent_self a = record { stay = record { ring = ((refl, refl, refl, refl), refl); stream = refl; leaves = refl; before = refl }; sent = refl; pushed = refl; entered = refl }

  sent_on : (a b c : Stay T) → SameSent a b → SameSent b c → SameSent a c
  sent_on a b c x y =
      record {
        stay =
            record {
              ring = (
                (y.stay.ring.0.0 ∙ x.stay.ring.0.0, y.stay.ring.0.1 ∙ x.stay.ring.0.1, y.stay.ring.0.2 ∙ x.stay.ring.0.2, y.stay.ring.0.3 ∙ x.stay.ring.0.3),
                y.stay.ring.1 ∙ x.stay.ring.1,
              );
              stream = y.stay.stream ∙ x.stay.stream;
              leaves = y.stay.leaves ∙ x.stay.leaves;
              before = y.stay.before ∙ x.stay.before;
            };
        sent = y.sent ∙ x.sent;
        pushed = y.pushed ∙ x.pushed;
        entered = y.entered ∙ x.entered;
      }

module _ {T S : Type 0} where
  at_self : (a : Option (Place T S)) → SameAt a a
  at_self None = refl
  at_self (Some (Vacant' v)) = refl
  at_self (Some (Open a)) = sent_self a
  at_self (Some Out) = refl

  pub at_on : (a b c : Option (Place T S)) → SameAt a b → SameAt b c → SameAt a c
  at_on None b c x y = subst (λ (p : Option (Place T S)). SameAt p c → c ≡ None) (sym x) (λ z. z) y
  at_on (Some (Vacant' v)) b c x y = subst (λ (p : Option (Place T S)). SameAt p c → c ≡ Some (Vacant' v)) (sym x) (λ z. z) y
  at_on (Some Out) b c x y = subst (λ (p : Option (Place T S)). SameAt p c → c ≡ Some Out) (sym x) (λ z. z) y
  at_on (Some (Open a)) None c x y = absurd x
  at_on (Some (Open a)) (Some (Vacant' v)) c x y = absurd x
  at_on (Some (Open a)) (Some Out) c x y = absurd x
  at_on (Some (Open a)) (Some (Open b)) None x y = absurd y
  at_on (Some (Open a)) (Some (Open b)) (Some (Vacant' v)) x y = absurd y
  at_on (Some (Open a)) (Some (Open b)) (Some Out) x y = absurd y
  at_on (Some (Open a)) (Some (Open b)) (Some (Open c)) x y = sent_on a b c x y

  pub places_self : (st : Stays T S) → SamePlaces st st
  places_self st = record { chain = refl; each = λ c. at_self (place_at st c) }

  pub places_on : (a b c : Stays T S) → SamePlaces a b → SamePlaces b c → SamePlaces a c
  places_on a b c x y = record { chain = y.chain ∙ x.chain; each = λ d. at_on (place_at a d) (place_at b d) (place_at c d) (x.each d) (y.each d) }

  -- one stay was looked at
  pub places_but : (c : ℕ) (old new : Stays T S) (a b : Stay T) → SameElsewhere c old new → chain_of new ≡ chain_of old → place_at old c ≡ Some (Open a) → place_at new c ≡ Some (Open b) → SameSent a b → SamePlaces old new
  places_but c old new a b elsewhere chain was now same = record { chain = chain; each = λ d. go d (d == c) refl }
    where
      go : (d : ℕ) (x : Bool) → (d == c) ≡ x → SameAt (place_at old d) (place_at new d)
      go d true e =
          let is : d ≡ c = grind (arith, nat_tests) in
          let was_d : place_at old d ≡ Some (Open a) = ap (place_at old) is ∙ was in
          let now_d : place_at new d ≡ Some (Open b) = ap (place_at new) is ∙ now in
          subst (λ (x : Option (Place T S)). SameAt x (place_at new d)) (sym was_d) (subst (λ (x : Option (Place T S)). SameAt (Some (Open a)) x) (sym now_d) same)
      go d false e =
          let away : d ≢ c = λ (is : d ≡ c). (let t : (d == c) ≡ true = grind (arith, nat_tests) in cc (sym t ∙ e)) in
          subst (λ (x : Option (Place T S)). SameAt (place_at old d) x) (sym (elsewhere.others d away)) (at_self (place_at old d))

  -- what was sent at a place that is the same
  pub same_sent_in : (a b : Option (Place T S)) → SameAt a b → sent_in b ≡ sent_in a
  same_sent_in None b x = ap sent_in x
  same_sent_in (Some (Vacant' v)) b x = ap sent_in x
  same_sent_in (Some Out) b x = ap sent_in x
  same_sent_in (Some (Open a)) None x = absurd x
  same_sent_in (Some (Open a)) (Some (Vacant' v)) x = absurd x
  same_sent_in (Some (Open a)) (Some Out) x = absurd x
  same_sent_in (Some (Open a)) (Some (Open b)) x = x.sent

-- a block that is here for one of what a resident stands for is here for each
here_by_feeds : (a b : Option (List Act)) (had : List Act) → b ≡ Some had → feeds_in a ≡ feeds_in b → (is : List Act) × (a ≡ Some is)
here_by_feeds None b had e same = absurd (cc (same ∙ ap feeds_in e))
here_by_feeds (Some is) b had e same = (is, refl)

-- what was taken out and put in again is what it was
put_back : (c d : ℕ) (had : List Act) (blocks : Blocks) → blocks c ≡ Some had → with_act (Done.In c) had (with_act (Done.Out c) [] blocks) d ≡ blocks d
put_back c d had blocks here = go (c == d) refl
  where
    go : (x : Bool) → (c == d) ≡ x → (if x then Some had else if x then None else blocks d) ≡ blocks d
    go true e = let is : c ≡ d = grind (arith, nat_tests) in sym here ∙ ap blocks is
    go false e = refl

open_on : {T S : Type 0} (a : Stay T) (x : Option (Place T S)) → SameAt (Some (Open a)) x → (b : Stay T) × (x ≡ Some (Open b)) × SameSent a b
open_on a None x = absurd x
open_on a (Some (Vacant' v)) x = absurd x
open_on a (Some Out) x = absurd x
open_on a (Some (Open b)) x = (b, refl, x)

module _ {X T S O : Type 0} {G : Ghosts X (Stream T S) O} where
  pub away_now : (was mid : Places X (Stream T S) O G) (c : ℕ) → Here (Stands was) c → ((blocks : Blocks) → Stands was blocks → Stands mid (with_act (Done.Out c) [] blocks)) → NotHere (Stands mid) c
  away_now was mid c here took =
      let one : (c == c) ≡ true = grind (arith, nat_tests) in
      record { blocks = with_act (Done.Out c) [] here.blocks; stands = took here.blocks here.stands; away = subst (λ (b : Bool). (if b then None else here.blocks c) ≡ None) (sym one) refl }

  -- a part that was taken out and put in again stands for what it stood for
  pub stands_again : (was mid is : Places X (Stream T S) O G) (c : ℕ) (part after : Stream T S) → ((p : Stream T S) (a b : List Act) → G.part_stands p a → G.part_stands p b → fed a ≡ fed b) → Here (Stands was) c
      → ((blocks : Blocks) → Stands was blocks → Stands mid (with_act (Done.Out c) [] blocks))
      → ((blocks : Blocks) (had : List Act) → Stands was blocks → blocks c ≡ Some had → InOrder G.part_stands part had)
      → ((had : List Act) → InOrder G.part_stands part had → InOrder G.part_stands after had)
      → ((blocks : Blocks) (note : List Act) → Stands mid blocks → InOrder G.part_stands after note → Stands is (with_act (Done.In c) note blocks))
      → (blocks : Blocks) → Stands was blocks → Stands is blocks
  stands_again was mid is c part after same here took had still put blocks st = λ d.
      let h = here_by_feeds (blocks c) (here.blocks c) here.had here.here (places_same_feeds same was blocks here.blocks c st here.stands) in
      subst (λ (x : Option (List Act)). PlaceAt (MayBe is) d (slice_get is.places.items d) x) (put_back c d h.0 blocks h.1)
      (put (with_act (Done.Out c) [] blocks) h.0 (took blocks st) (still h.0 (had blocks h.0 st h.1)) d)

  pub keeps_self : (r : Places X (Stream T S) O G) → KeepsParts r r
  keeps_self r = record { stands = λ blocks st. st; limits = refl; size = refl; origin = refl }

  pub keeps_on : (a b c : Places X (Stream T S) O G) → KeepsParts a b → KeepsParts b c → KeepsParts a c
  keeps_on a b c x y =
      record { stands = λ blocks st. y.stands blocks (x.stands blocks st); limits = y.limits ∙ x.limits; size = y.size ∙ x.size; origin = y.origin ∙ x.origin }

  -- what may be settled still may, after others were
  pub may_still : (begins : O → ℕ → Consumer T Global AnyItems → S → Type 0) (was is : Places X (Stream T S) O G) (old new : Stays T S) (c : ℕ) → KeepsParts was is → SamePlaces old new → MaySettle begins was old c → MaySettle begins is new c
  may_still begins was is old new c keeps same may =
      let next = open_on may.stay (place_at new c) (subst (λ (x : Option (Place T S)). SameAt x (place_at new c)) may.is_open (same.each c)) in
      record {
        here = record { blocks = may.here.blocks; had = may.here.had; stands = keeps.stands may.here.blocks may.here.stands; here = may.here.here };
        stay = next.0;
        is_open = next.1;
        ring = subst (λ (x : O). IsOfRing begins x c (producer_of next.0)) (sym keeps.origin) (of_ring begins (origin_of was) c (producer_of may.stay) (producer_of next.0) next.2.stay.ring may.ring);
      }
