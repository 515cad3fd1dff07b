-- What several rings brought, in one order.
use Rattle.std.specs.Prelude.{◌≡◌, ℕ, ◌<◌, ◌==◌, Some, List, filter, length, map, slice_get}
use Rattle.std.specs.List.{AllByRecursion}

module _ {T : Type 0} where
  -- what came from a ring, in its order
  abbrev pub from_ring : ℕ → List (ℕ × T) → List T
  from_ring p mix = map (λ e. e.1) (filter (λ e. e.0 == p) mix)

  -- each ring's own, in its order and each once, and no others
  pub record IsMix (brought : List (List T)) (mix : List (ℕ × T)) : Type 0 where
    pub each : (p : ℕ) (its : List T) → slice_get brought p ≡ Some its → from_ring p mix ≡ its
    pub only : AllByRecursion (λ (e : ℕ × T). e.0 < length brought) mix
