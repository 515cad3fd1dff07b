-- Parts that are served by key: their residents at first, and what is known of what is left of the squeues.
use Rattle.std.specs.Prelude.{◌≡◌, ℕ, ◌%◌, ◌<◌, Some, List, length, slice_get, slice_index}
use Rattle.perimeter_core.specs.declared.resident.Resident.{Ghosts as ResidentGhosts}
use Rattle.perimeter_core.specs.Residing.{HadFeeds}
use Rattle.placed_parts.specs.declared.parts.Parts.{Ghosts}
use Rattle.placed_parts.specs.declared.places.Places.{Places}
use Rattle.placed_parts.specs.Placing.{Stands, limits_of, origin_of, shared_of, size_of}
use Rattle.placed_parts.specs.Standing.{InOrder, first_here}
use Rattle.squeue_pool.specs.declared.work.Left.{Left}

-- places as a resident
abbrev pub as_resident : {S P O : Type 0} (G : Ghosts S P O) → ResidentGhosts (Places S P O G) P O
as_resident G = record {
  stands = Stands;
  part_stands = InOrder G.part_stands;
  limits = limits_of;
  size = size_of;
  origin = origin_of;
  is_part_of = G.is_part_of;
}

module _ {S P O : Type 0} {G : Ghosts S P O} (shared : S) where
  -- a resident of squeue q, of so many: of so many connections those are here that are first at home there, and nothing was done to them
  pub record IsNewAt (count squeues q : ℕ) (r : Places S P O G) : Type 0 where
    pub stands : Stands r (first_here count q squeues)
    pub size : size_of r ≡ count
    pub shared_is : shared_of r ≡ shared

  -- there is one for each squeue
  pub record AreNew (count squeues : ℕ) (rs : List (Places S P O G)) : Type 0 where
    pub as_many : length rs ≡ squeues
    pub each : (q : ℕ) (r : Places S P O G) → slice_get rs q ≡ Some r → IsNewAt count squeues q r

  -- The residents have the same origin, and a place for each connection; and each connection has had all its feeds, at the squeue of its
  -- number, modulo the squeues
  pub record HaveHad (counts : List ℕ) (vs : List (Left (Places S P O G))) : Type 0 where
    pub origin : (q : ℕ) (v : Left (Places S P O G)) → slice_get vs q ≡ Some v → origin_of v.resident ≡ G.origin shared
    pub size : (q : ℕ) (v : Left (Places S P O G)) → slice_get vs q ≡ Some v → size_of v.resident ≡ length counts
    pub had : (c : ℕ) (v : Left (Places S P O G)) → c < length counts → slice_get vs (c % length vs) ≡ Some v
        → HadFeeds (Stands v.resident) c (slice_index counts c)
