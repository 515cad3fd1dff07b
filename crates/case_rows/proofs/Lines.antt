-- Lines at the front of bytes.
use Rattle.std.specs.Prelude.{◌≡◌, ◌≢◌, ℕ, ◌+◌, ◌<◌, List, [], ◌∷◌, ◌++◌, Option, None, Some, IfSome, MatchOption, length, take, slice_index_or}
use Rattle.std.specs.List.{flat_map}
use Rattle.std.specs.Borrow.{Bor}
use Rattle.std.proofs.Common.{ap, arith, sym, refl, true, ◌==◌, ◌∙◌, append_assoc, append-nil}
use Rattle.std.proofs.lemmas.Grind.{flat_map-append}
use Rattle.std.proofs.lemmas.Bool.{eqb-true}
use Rattle.std.proofs.lemmas.List.{take_more}

-- what stands behind a line and its newline
pub behind_line : (bytes line rest : List ℕ) (r : Option (Bor (List ℕ))) → bytes ≡ line ++ rest
    → MatchOption r ((more : List ℕ) → rest ≢ (10 ∷ []) ++ more) (λ x. rest ≡ (10 ∷ []) ++ x.now) → IfSome r (λ x. bytes ≡ line ++ 10 ∷ x.now)
behind_line bytes line rest None is behind = tt
behind_line bytes line rest (Some x) is behind = is ∙ ap (λ l. line ++ l) behind

-- one line more is found at the front of what is left
pub line_more : {X : Type 0} (f : X → List ℕ) (xs : List X) (i : ℕ) (d : X) (all rest more : List ℕ) → i < length xs
    → all ≡ flat_map f (take i xs) ++ rest → rest ≡ f (slice_index_or xs i d) ++ more → all ≡ flat_map f (take (i + 1) xs) ++ more
line_more f xs i d all rest more lt had is =
    let one : flat_map f (slice_index_or xs i d ∷ []) ≡ f (slice_index_or xs i d) = append-nil (f (slice_index_or xs i d)) in
    had ∙ ap (λ r. flat_map f (take i xs) ++ r) is ∙ sym (append_assoc (flat_map f (take i xs)) (f (slice_index_or xs i d)) more)
    ∙ ap (λ l. l ++ more) (ap (λ l. flat_map f (take i xs) ++ l) (sym one) ∙ sym (flat_map-append f (take i xs) (slice_index_or xs i d ∷ [])) ∙ ap (flat_map f) (sym (take_more xs i d lt)))

pub no_more : (rest : List ℕ) → (length rest == 0) ≡ true → rest ≡ []
no_more [] none = refl
no_more (x ∷ xs) none = absurd (omega (arith, eqb-true (length (x ∷ xs)) 0 none))
