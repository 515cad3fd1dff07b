-- One turn of a loop over entries that writes each value once.
use Rattle.std.proofs.Common.{◌≡◌, ℕ, zero, suc, ◌≤◌, List, [], ◌∷◌, ◌++◌, length, map, take, drop, slice_get, Some, unwrap_or, refl, sym, ap, ◌∙◌, is_some, true≢false, append_assoc, append-nil, arith}
use Rattle.std.specs.List.{flat_map}
use Rattle.indexmap.specs.IndexMap.{set_value_at}

module _ {K V : Type 0} (f : V → V) where
  abbrev pub turned : K × V → K × V
  turned c = (c.0, f c.1)

  -- the entries when the first so many have had their turn
  abbrev pub part_turned : ℕ → List (K × V) → List (K × V)
  part_turned i cs = map turned (take i cs) ++ drop i cs

  pub next_entry : (cs : List (K × V)) (i : ℕ) → slice_get (part_turned i cs) i ≡ slice_get cs i
  next_entry [] zero = refl
  next_entry [] (suc i) = refl
  next_entry (c ∷ cs) zero = refl
  next_entry (c ∷ cs) (suc i) = next_entry cs i

  pub turn : (cs : List (K × V)) (i : ℕ) (k : K) (v : V) → slice_get cs i ≡ Some (k, v) → set_value_at (part_turned i cs) i (f v) ≡ part_turned (suc i) cs
  turn [] i k v at = absurd (true≢false (sym (ap is_some at)))
  turn (c ∷ cs) zero k v at = ap (λ x. (c.0, f x) ∷ cs) (sym (ap (λ o. (unwrap_or o c).1) at))
  turn (c ∷ cs) (suc i) k v at = ap (λ l. turned c ∷ l) (turn cs i k v at)

  pub all_turned : (cs : List (K × V)) (i : ℕ) → length cs ≤ i → part_turned i cs ≡ map turned cs
  all_turned [] zero past = refl
  all_turned [] (suc i) past = refl
  all_turned (c ∷ cs) zero past = absurd (omega arith)
  all_turned (c ∷ cs) (suc i) past = ap (λ l. turned c ∷ l) (all_turned cs i (omega arith))

module _ {A W : Type 0} (g : A → List W) where
  pub told_more : (cs : List A) (i : ℕ) (c : A) → slice_get cs i ≡ Some c → flat_map g (take (suc i) cs) ≡ flat_map g (take i cs) ++ g c
  told_more [] i d at = absurd (true≢false (sym (ap is_some at)))
  told_more (c ∷ cs) zero d at = append-nil (g c) ∙ ap (λ o. g (unwrap_or o c)) at
  told_more (c ∷ cs) (suc i) d at = ap (λ l. g c ++ l) (told_more cs i d at) ∙ sym (append_assoc (g c) (flat_map g (take i cs)) (g d))

  pub told_all : (cs : List A) (i : ℕ) → length cs ≤ i → flat_map g (take i cs) ≡ flat_map g cs
  told_all [] zero past = refl
  told_all [] (suc i) past = refl
  told_all (c ∷ cs) zero past = absurd (omega arith)
  told_all (c ∷ cs) (suc i) past = ap (λ l. g c ++ l) (told_all cs i (omega arith))
