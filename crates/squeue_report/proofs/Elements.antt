-- What holds of each element of a list, from the first on.
use Rattle.std.proofs.Common.{◌≡◌, ℕ, ◌+◌, ◌<◌, ◌≤◌, List, length, slice_get, Some, inl, inr, sym, ap, subst, ◌∙◌, arith}
use Rattle.std.proofs.lemmas.Bool.Decides.{eqb_tells}
use Rattle.std.proofs.lemmas.Option.{slice_get_within}

-- of the first i elements
abbrev pub HoldsBelow : {X : Type 0} → (X → Type 0) → List X → ℕ → Type 0
HoldsBelow {X} P xs i = (k : ℕ) (y : X) → k < i → slice_get xs k ≡ Some y → P y

pub one_more : {X : Type 0} (P : X → Type 0) (xs : List X) (i : ℕ) (x : X) → HoldsBelow P xs i → slice_get xs i ≡ Some x → P x → HoldsBelow P xs (i + 1)
one_more P xs i x h at p k y lt there = elim (eqb_tells k i) [ inl e ↦ (let same : x ≡ y = some_is (sym at ∙ ap (slice_get xs) (sym e.1) ∙ there) in subst P same p) | inr e ↦ h k y (omega (arith, lt, e.1)) there ]
  where
    some_is : {Y : Type 0} {a b : Y} → Some a ≡ Some b → a ≡ b
    some_is e = cc

pub of_all : {X : Type 0} (P : X → Type 0) (xs : List X) (n : ℕ) → length xs ≤ n → HoldsBelow P xs n → (k : ℕ) (y : X) → slice_get xs k ≡ Some y → P y
of_all P xs n past h k y there = h k y (omega (arith, past, slice_get_within xs k y there)) there
