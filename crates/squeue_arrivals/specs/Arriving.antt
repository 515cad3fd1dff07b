-- What is made of items that arrive with their keys.
use Rattle.std.specs.Prelude.{◌≡◌, ◌≢◌, ℕ, ◌+◌, ◌*◌, ◌^◌, ◌<◌, ◌≤◌, ◌==◌, nat_eq, Option, None, Some, List, [], ◌∷◌, ◌++◌, Contains, filter, length, map, slice_get}
use Rattle.std.specs.List.{IsDistinct}
use Rattle.turn_gate.specs.Passes.{number, seen}
use Rattle.perimeter_core.specs.History.{Element, Setting}
use Rattle.histories.specs.Endings.{Ending, HasEnded}
use Rattle.squeue_streams.specs.Taking.{Takes}
use Rattle.squeue_arrivals.specs.Stayed.{WasFed}
use Rattle.squeue_arrivals.specs.declared.served.Cause.{Cause}
use Rattle.squeue_arrivals.specs.declared.served.Cause.TheVariants as Cause'
use Rattle.squeue_arrivals.specs.declared.served.KeyPart.{KeyPart}
use Rattle.squeue_arrivals.specs.declared.served.Refused.{Refused}
use Rattle.squeue_arrivals.specs.declared.served.ServedSource.{ServedSource}

-- so many items a ring serves
abbrev pub most_of_ring : ℕ
most_of_ring = 2 ^ 49

-- the items of a key, in their order
abbrev pub items_for : {T : Type 0} → ℕ → List (ℕ × T) → List T
items_for k all = map (λ e. e.1) (filter (λ e. e.0 == k) all)

-- the keys of parts, in their order
abbrev pub keys_of : {S : Type 0} → List (KeyPart S) → List ℕ
keys_of parts = map (λ p. p.key) parts

module _ {T : Type 0} where
  -- an item that was refused, with its key
  abbrev pub refused_in : Option (Refused T) → List (ℕ × T)
  refused_in None = []
  refused_in (Some r) = (r.key, r.item) ∷ []

  -- After these items of a ring, which has so many keys and no more than `most` places, it has cause to refuse one of this key
  abbrev pub HasCause : Cause → ℕ → ℕ → List (ℕ × T) → ℕ → Type 0
  HasCause Cause'.NoPlace most many all k = (many ≡ most) × (items_for k all ≡ [])
  HasCause Cause'.LifeIsOver most many all k = most_of_ring ≤ length all

-- these items lead to the state, one after another, from one in which a key may begin
pub record IsMadeOf {W T S : Type 0} (begins : W → S → Type 0) (step : W → S → T → S → Type 0) (work : W) (items : List T) (state : S) : Type 0 where
  pub first : S
  pub begun : begins work first
  pub taken : Takes (step work) first items state

module _ {T A O : Type 0} (origin : A → O) (given : A → List (ℕ × T)) (is_over : A → Type 0) (most many : ℕ) where
  -- The source gave these items, and then maybe one that was refused, for a cause; else it is over
  pub record HasGiven (all : List (ℕ × T)) (source left : A) (refused : Option (Refused T)) : Type 0 where
    pub gave : given left ≡ given source ++ all ++ refused_in refused
    pub same : origin left ≡ origin source
    pub over : refused ≡ None → is_over left
    pub cause : (r : Refused T) → refused ≡ Some r → HasCause r.cause most many all r.key

module _ {W T S A O : Type 0} (begins : W → S → Type 0) (step : W → S → T → S → Type 0) (origin : A → O) (given : A → List (ℕ × T))
    (is_over : A → Type 0) (work : W) (most : ℕ) where
  -- A source is served that gave these items: there is one part for each key among them, and no other, and there are no more than places.
  -- Each is made of all items of its key, in the order in which the source gave them
  pub record IsServed (source : A) (left : ServedSource A T S) : Type 0 where
    pub all : List (ℕ × T)
    pub its_items : HasGiven origin given is_over most (length left.parts.items) all source left.source left.refused
    pub few : length left.parts.items ≤ most
    pub distinct : IsDistinct nat_eq (keys_of left.parts.items)
    pub each : (i : ℕ) (part : KeyPart S) → slice_get left.parts.items i ≡ Some part
        → (items_for part.key all ≢ []) × IsMadeOf begins step work (items_for part.key all) part.state
    pub every : (k : ℕ) → items_for k all ≢ [] → Contains (keys_of left.parts.items) k

  -- and in this history of this setting the part of each key had as many feeds as items, in all stays that ring k ended: the part of the i-th
  -- key is number k plus i times the rings
  pub record IsServedBy (at : Setting) (k : ℕ) (H : List Element) (source : A) (left : ServedSource A T S) : Type 0 where
    pub served : IsServed source left
    pub stays : (i : ℕ) (part : KeyPart S) → slice_get left.parts.items i ≡ Some part
        → WasFed at k (k + i * at.rings) (length (items_for part.key served.all)) H

  -- so it is of all that the ring's pass has seen, which is a beginning of its squeue's history
  abbrev pub IsServedAt : Setting → A → ServedSource A T S → Type 0
  IsServedAt at source left = IsServedBy at (number left.pass.value) (seen left.pass.value) source left

  -- and of the history of an ended squeue, which is legal and over, where the source's ring was that of this number
  pub record IsServedIn (end : Ending) (k : ℕ) (source : A) (left : ServedSource A T S) : Type 0 where
    pub ended : HasEnded end
    pub ring : k < end.setting.rings
    pub by : IsServedBy end.setting k end.history source left
