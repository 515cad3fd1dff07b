-- The laws of a resident of places.
use Rattle.std.specs.Prelude.{◌≡◌, ℕ, ◌<◌, Option, Some, None, List, [], ◌∷◌, length, slice_get}
use Rattle.std.proofs.Common.{ap, sym, ◌∙◌, refl, suc, zero, subst, arith}
use Rattle.perimeter_core.specs.declared.entries.Act.{Act}
use Rattle.perimeter_core.specs.Deeds.{fed, feed_numbers}
use Rattle.perimeter_core.specs.Blocks.{Blocks}
use Rattle.perimeter_core.specs.Backlog.{up}
use Rattle.perimeter_core.specs.Residing.{IsWithin, feeds_had, feeds_in}
use Rattle.placed_parts.specs.declared.parts.Parts.{Ghosts}
use Rattle.placed_parts.specs.declared.places.Places.{Places}
use Rattle.placed_parts.specs.Standing.{InOrder, PlaceAt, PlacesStand}
use Rattle.placed_parts.specs.Placing.{MayBe, Stands, limits_of, size_of}

module _ {P : Type 0} (At : ℕ → P → List Act → Type 0) where
  same_at : ((c : ℕ) (p : P) (a b : List Act) → At c p a → At c p b → feed_numbers a ≡ feed_numbers b)
      → (c : ℕ) (o : Option (Option P)) (a b : Option (List Act)) → PlaceAt At c o a → PlaceAt At c o b → feeds_in a ≡ feeds_in b
  same_at same c (Some (Some k)) (Some x) (Some y) h j = ap Some (same c k x y h j)
  same_at same c (Some (Some k)) (Some x) None h j = absurd j
  same_at same c (Some (Some k)) None b h j = absurd h
  same_at same c (Some None) (Some x) b h j = absurd h
  same_at same c (Some None) None (Some y) h j = absurd j
  same_at same c (Some None) None None h j = refl
  same_at same c None (Some x) b h j = absurd h
  same_at same c None None (Some y) h j = absurd j
  same_at same c None None None h j = refl

  -- whatever places stand for, the feeds are the same, where they are so of each part
  pub same_feeds_of : ((c : ℕ) (p : P) (a b : List Act) → At c p a → At c p b → feed_numbers a ≡ feed_numbers b)
      → (places : List (Option P)) (a b : Blocks) (c : ℕ) → PlacesStand At places a → PlacesStand At places b → feeds_had a c ≡ feeds_had b c
  same_feeds_of same places a b c h j = same_at same c (slice_get places c) (a c) (b c) (h c) (j c)

  below : (places : List (Option P)) (c d : ℕ) (had : List Act) → PlaceAt At d (slice_get places c) (Some had) → c < length places
  below [] c d had h = absurd h
  below (x ∷ places) zero d had h = omega arith
  below (x ∷ places) (suc c) d had h = let r = below places c d had h in omega (arith, r)

  -- each connection that is here has a place
  pub has_place : (places : List (Option P)) (blocks : Blocks) (c : ℕ) (had : List Act) → PlacesStand At places blocks → blocks c ≡ Some had
      → c < length places
  has_place places blocks c had h e = below places c c had (subst (λ (b : Option (List Act)). PlaceAt At c (slice_get places c) b) e (h c))

-- feeds that were numbered from 0 on are the same where they are as many
pub part_same : {P : Type 0} (Had : P → List Act → Type 0) → ((p : P) (a b : List Act) → Had p a → Had p b → fed a ≡ fed b)
    → (p : P) (a b : List Act) → InOrder Had p a → InOrder Had p b → feed_numbers a ≡ feed_numbers b
part_same Had same p a b x y = x.0 ∙ (ap (up 0) (same p a b x.1 y.1) ∙ sym y.0)

module _ {S P O : Type 0} {G : Ghosts S P O} where
  pub places_in_range : (r : Places S P O G) (blocks : Blocks) (c : ℕ) (had : List Act) → Stands r blocks → blocks c ≡ Some had → c < size_of r
  places_in_range r blocks c had h e = has_place (MayBe r) r.places.items blocks c had h e

  pub places_within : (r : Places S P O G) → IsWithin (size_of r) (limits_of r)
  places_within r = r.within

  pub places_same_feeds : ((p : P) (a b : List Act) → G.part_stands p a → G.part_stands p b → fed a ≡ fed b)
      → (r : Places S P O G) (a b : Blocks) (c : ℕ) → Stands r a → Stands r b → feeds_had a c ≡ feeds_had b c
  places_same_feeds same r a b c h j =
      let each = part_same G.part_stands same in
      same_feeds_of (MayBe r) (λ d p x y k l. each p x y k.1 l.1) r.places.items a b c h j
