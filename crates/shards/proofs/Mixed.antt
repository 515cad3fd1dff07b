-- One item more in a mix.
use Rattle.std.proofs.Common.{◌≡◌, ◌≢◌, ℕ, ◌==◌, Bool, true, false, List, [], ◌∷◌, ◌++◌, map, refl, ap, ◌∙◌, append-nil}
use Rattle.std.specs.Prelude.{filter}
use Rattle.std.proofs.lemmas.Bool.{eqb-true, eq-eqb}
use Rattle.std.proofs.lemmas.List.{map-append}
use Rattle.std.proofs.lemmas.List.Elements.{filter-append}
use Rattle.shards.specs.Mixing.{from_ring}

module _ {T : Type 0} where
  pub from_append : (p : ℕ) (a b : List (ℕ × T)) → from_ring p (a ++ b) ≡ from_ring p a ++ from_ring p b
  from_append p a b =
      ap (map (λ (e : ℕ × T). e.1)) (filter-append (λ (e : ℕ × T). e.0 == p) a b)
      ∙ map-append (λ (e : ℕ × T). e.1) (filter (λ (e : ℕ × T). e.0 == p) a) (filter (λ (e : ℕ × T). e.0 == p) b)

  from_own : (p : ℕ) (x : T) → from_ring p ((p, x) ∷ []) ≡ x ∷ []
  from_own p x = rw (eq-eqb p p refl) refl

  from_other : (p q : ℕ) (x : T) → p ≢ q → from_ring q ((p, x) ∷ []) ≡ []
  from_other p q x other = go (p == q) refl
    where
      go : (b : Bool) → (p == q) ≡ b → from_ring q ((p, x) ∷ []) ≡ []
      go true is = absurd (other (eqb-true p q is))
      go false is = rw is refl

  -- its ring brought it behind all that it had brought, and no other ring brought more
  pub more_own : (p : ℕ) (x : T) (mix : List (ℕ × T)) → from_ring p (mix ++ (p, x) ∷ []) ≡ from_ring p mix ++ x ∷ []
  more_own p x mix = from_append p mix ((p, x) ∷ []) ∙ ap (λ (l : List T). from_ring p mix ++ l) (from_own p x)

  pub more_other : (p q : ℕ) (x : T) (mix : List (ℕ × T)) → p ≢ q → from_ring q (mix ++ (p, x) ∷ []) ≡ from_ring q mix
  more_other p q x mix other =
      from_append q mix ((p, x) ∷ []) ∙ (ap (λ (l : List T). from_ring q mix ++ l) (from_other p q x other) ∙ append-nil (from_ring q mix))
