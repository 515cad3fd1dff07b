-- What went out before an error.
use Rattle.std.specs.Prelude.{◌≡◌, ◌⊎◌, List, [], ◌∷◌, ◌++◌}

-- some of a list: in its order, and each at most once
unfoldable pub IsSomeOf : {X : Type 0} → List X → List X → Type 0
IsSomeOf some [] = some ≡ []
IsSomeOf {X} some (x ∷ xs) = IsSomeOf some xs ⊎ ((rest : List X) × (some ≡ x ∷ rest) × IsSomeOf rest xs)

-- what was there stays, and behind it went some of what would have been sent
pub record HasSent {X : Type 0} (was is all : List X) : Type 0 where
  pub some : List X
  pub behind : is ≡ was ++ some
  pub part : IsSomeOf some all
