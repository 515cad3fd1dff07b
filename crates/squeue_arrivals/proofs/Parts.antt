-- Parts of keys, one after another.
use Rattle.std.proofs.Common.{◌≡◌, ℕ, ◌+◌, inl, inr, Some, List, [], ◌∷◌, ◌++◌, length, slice_get, take, ap, sym, ◌∙◌, subst}
use Rattle.std.proofs.lemmas.List.{map-append, take_more}
use Rattle.std.proofs.lemmas.Option.{get_or_from_slice_get, slice_get_within}
use Rattle.squeue_arrivals.specs.Arriving.{keys_of}
use Rattle.squeue_arrivals.specs.declared.served.KeyPart.{KeyPart}
use Rattle.squeue_arrivals.proofs.Seated.{get_more}

module _ {S : Type 0} where
  pub keys_on : (ks : List ℕ) (i : ℕ) (old new : List (KeyPart S)) (part : KeyPart S) → slice_get ks i ≡ Some part.key → keys_of old ≡ take i ks → new ≡ old ++ part ∷ [] → keys_of new ≡ take (i + 1) ks
  keys_on ks i old new part at was is =
      ap keys_of is ∙ (map-append (λ (p : KeyPart S). p.key) old (part ∷ []) ∙ (ap (λ (l : List ℕ). l ++ part.key ∷ []) was
      ∙ sym (take_more ks i part.key (slice_get_within ks i part.key at) ∙ ap (λ (x : ℕ). take i ks ++ x ∷ []) (get_or_from_slice_get ks i part.key part.key at))))

  pub each_on : (P : ℕ → KeyPart S → Type 0) (old new : List (KeyPart S)) (part : KeyPart S) → new ≡ old ++ part ∷ [] → ((j : ℕ) (p : KeyPart S) → slice_get old j ≡ Some p → P j p) → P (length old) part
      → (j : ℕ) (p : KeyPart S) → slice_get new j ≡ Some p → P j p
  each_on P old new part is each last j p at = elim (get_more old part p j (ap (λ (l : List (KeyPart S)). slice_get l j) (sym is) ∙ at)) [
    | inl there ↦ each j p there
    | inr here ↦ subst (λ (n : ℕ). P n p) (sym here.0) (subst (P (length old)) here.1 last)
  ]

pub none_in : {X : Type 0} (xs : List X) (j : ℕ) (x : X) → xs ≡ [] → slice_get xs j ≡ Some x → ⊥
none_in [] j x none at = cc at
none_in (y ∷ xs) j x none at = cc none
