-- The keys of a ring, and their places.
use Rattle.std.specs.Prelude.{◌≡◌, nat_eq, ℕ, ◌+◌, ◌*◌, ◌≤◌, List, []}
use Rattle.std.specs.HashSet.{IsUnique, spare}
use Rattle.squeue_arrivals.specs.declared.ring_keys.RingKeys.{RingKeys}

-- the keys that have a place, in the order in which they came; how many places there are; and which the i-th of them is
abbrev pub keys_in : RingKeys → List ℕ
keys_in k = k.set.keys

abbrev pub most_in : RingKeys → ℕ
most_in k = k.most

abbrev pub place_of : RingKeys → ℕ → ℕ
place_of k i = k.number + i * k.rings

-- it is the same ring
pub record SameRing (a b : RingKeys) : Type 0 where
  pub number : b.number ≡ a.number
  pub rings : b.rings ≡ a.rings
  pub most : b.most ≡ a.most

-- no key came to the ring of this number, of so many, which has so many places and room for as many keys
pub record IsWithoutKeys (rings number most : ℕ) (k : RingKeys) : Type 0 where
  pub none : keys_in k ≡ []
  pub room : most ≤ spare k.set
  pub unique : IsUnique nat_eq k.set
  pub is_number : k.number ≡ number
  pub is_rings : k.rings ≡ rings
  pub is_most : most_in k ≡ most
