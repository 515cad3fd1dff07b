-- A text that grows by one line for each element of a list.
use Rattle.std.proofs.Common.{◌≡◌, ℕ, ◌+◌, List, [], ◌∷◌, ◌++◌, take, slice_get, Some, sym, ap, ◌∙◌}
use Rattle.text_digits.specs.Told.{Told, more}
use Rattle.text_digits.proofs.Joins.{more_more}
use Rattle.std.specs.List.{flat_map}
use Rattle.std.proofs.lemmas.List.{append-nil}
use Rattle.std.proofs.lemmas.Grind.{flat_map-append}
use Rattle.histories.proofs.ListPlaces.{take_one}

-- one line more
pub line_more : {X : Type 0} (f : X → List ℕ) (old was new : Told) (xs : List X) (i : ℕ) (x : X) → was ≡ more old (flat_map f (take i xs))
    → slice_get xs i ≡ Some x → new ≡ more was (f x) → new ≡ more old (flat_map f (take (i + 1) xs))
line_more {X = X} f old was new xs i x e here n =
    n ∙ ap (λ t. more t (f x)) e ∙ more_more old (flat_map f (take i xs)) (f x)
    ∙ ap (more old) (sym (ap (flat_map f) (take_one xs i x here) ∙ flat_map-append f (take i xs) (x ∷ []) ∙ ap (λ l. flat_map f (take i xs) ++ l) (alone x)))
  where
    alone : (y : X) → flat_map f (y ∷ []) ≡ f y
    alone y = append-nil (f y)
