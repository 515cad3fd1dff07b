-- Lines of a text, by what they begin with.
use Rattle.std.specs.Prelude.{◌≡◌, ℕ, ◌≤◌, ◌⊎◌, List, [], ◌∷◌, ◌++◌, length}

-- a line may begin behind this text
abbrev pub EndsLine : List ℕ → Type 0
EndsLine text = (text ≡ []) ⊎ ((front : List ℕ) × (text ≡ front ++ 10 ∷ []))

-- a line that begins with the word stands behind this front of the text
pub record HasLine (word text before : List ℕ) : Type 0 where
  pub after : List ℕ
  pub joined : text ≡ before ++ (word ++ after)
  pub begins : EndsLine before

-- and no earlier one
pub record HasFirstLine (word text before : List ℕ) : Type 0 where
  pub there : HasLine word text before
  pub first : (front : List ℕ) → HasLine word text front → length before ≤ length front

abbrev pub HasNoLine : List ℕ → List ℕ → Type 0
HasNoLine word text = (front : List ℕ) → HasLine word text front → ⊥
