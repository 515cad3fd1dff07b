-- Fewer words than a setting has.
use Rattle.std.proofs.Common.{◌≡◌, ◌<◌, List, [], ◌∷◌, length, map, refl, arith, None, String, Global}
use Rattle.std.specs.String.{string_bytes}
use Rattle.live_run.specs.Words.{setting_of}

pub too_few : (words : List (String Global)) → length words < 6 → None ≡ setting_of (map (λ s. string_bytes s) words)
too_few [] few = refl
too_few (a ∷ []) few = refl
too_few (a ∷ b ∷ []) few = refl
too_few (a ∷ b ∷ c ∷ []) few = refl
too_few (a ∷ b ∷ c ∷ d ∷ []) few = refl
too_few (a ∷ b ∷ c ∷ d ∷ e ∷ []) few = refl
too_few (a ∷ b ∷ c ∷ d ∷ e ∷ f ∷ rest) few = absurd (omega (arith, few))
