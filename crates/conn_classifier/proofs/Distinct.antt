-- The list of connections, one packet further.
use Rattle.std.proofs.Common.{◌≡◌, ℕ, ◌<◌, ◌≤◌, Bool, true, false, not, ◌||◌, if◌then◌else◌, List, [], ◌∷◌, ◌++◌, length, take, filter, refl, sym, ap, ◌∙◌, arith, append-nil}
use Rattle.std.proofs.lemmas.List.{length-take, length-append, take_all, take-append-le}
use Rattle.std.specs.List.{list_any}
use Rattle.indexmap.specs.IndexSet.{insert_key}

-- a filter, one element further
pub filter_push : {X : Type 0} (f : X → Bool) (ds : List X) (t : X) → filter f (ds ++ t ∷ []) ≡ filter f ds ++ (if f t then t ∷ [] else [])
filter_push f [] t = by (f t) refl
  where
    by : (b : Bool) → f t ≡ b → filter f (t ∷ []) ≡ (if f t then t ∷ [] else [])
    by true e = rw e refl
    by false e = rw e refl
filter_push f (d ∷ ds) t = by (f d) refl (filter_push f ds t)
  where
    by : (b : Bool) → f d ≡ b → filter f (ds ++ t ∷ []) ≡ filter f ds ++ (if f t then t ∷ [] else [])
        → filter f (d ∷ (ds ++ t ∷ [])) ≡ filter f (d ∷ ds) ++ (if f t then t ∷ [] else [])
    by true e rest = rw e (ap (λ l. d ∷ l) rest)
    by false e rest = rw e rest

module _ {X : Type 0} (eq : X → X → Bool) (same : (x y : X) → eq x y ≡ true → x ≡ y) where
  pub any_without : (t x : X) → eq t x ≡ false → (ds : List X) → list_any (eq t) (filter (λ u. not (eq u x)) ds) ≡ list_any (eq t) ds
  any_without t x ne [] = refl
  any_without t x ne (d ∷ ds) = by (eq d x) refl (any_without t x ne ds)
    where
      by : (b : Bool) → eq d x ≡ b → list_any (eq t) (filter (λ u. not (eq u x)) ds) ≡ list_any (eq t) ds
          → list_any (eq t) (filter (λ u. not (eq u x)) (d ∷ ds)) ≡ list_any (eq t) (d ∷ ds)
      by true e rest =
          let off : eq t d ≡ false = ap (eq t) (same d x e) ∙ ne in
          rw (e, off) rest
      by false e rest = rw e (ap (λ c. eq t d || c) rest)

  -- one item more
  module _ (distinct : List X → List X) (none : distinct [] ≡ []) (some : (t : X) (ts : List X) → distinct (t ∷ ts) ≡ t ∷ filter (λ u. not (eq u t)) (distinct ts)) where
    step : (x t : X) (ds : List X) → (a b : Bool) → list_any (eq t) ds ≡ a → eq t x ≡ b
        → x ∷ filter (λ u. not (eq u x)) (if list_any (eq t) ds then ds else ds ++ t ∷ [])
        ≡ (if eq t x || list_any (eq t) (filter (λ u. not (eq u x)) ds) then x ∷ filter (λ u. not (eq u x)) ds else x ∷ (filter (λ u. not (eq u x)) ds ++ t ∷ []))
    step x t ds true true e f = rw (e, f) refl
    step x t ds true false e f = rw (any_without t x f ds) (rw (e, f) refl)
    step x t ds false true e f = rw (e, filter_push (λ u. not (eq u x)) ds t, f) (ap (λ l. x ∷ l) (append-nil _))
    step x t ds false false e f = rw (any_without t x f ds) (rw (e, filter_push (λ u. not (eq u x)) ds t, f) refl)

    pub distinct_push : (ts : List X) (t : X) → distinct (ts ++ t ∷ []) ≡ insert_key eq (distinct ts) t
    distinct_push [] t = some t [] ∙ rw none refl
    distinct_push (x ∷ ts) t =
        some x (ts ++ t ∷ []) ∙ ap (λ l. x ∷ filter (λ u. not (eq u x)) l) (distinct_push ts t)
        ∙ step x t (distinct ts) _ _ refl refl
        ∙ ap (λ l. insert_key eq l t) (sym (some x ts))

  -- as far as so many
  pub take_insert : (n : ℕ) (ds : List X) (t : X) → length (take n ds) < n → take n (insert_key eq ds t) ≡ insert_key eq (take n ds) t
  take_insert n ds t lt =
      let short : length ds < n = omega (arith, length-take n ds) in
      let all : take n ds ≡ ds = take_all n ds (omega arith) in
      by (list_any (eq t) ds) refl short all
    where
      by : (b : Bool) → list_any (eq t) ds ≡ b → length ds < n → take n ds ≡ ds → take n (insert_key eq ds t) ≡ insert_key eq (take n ds) t
      by true e short all = rw (all, e) all
      by false e short all = rw (all, e) (take_all n (ds ++ t ∷ []) (omega (arith, length-append ds (t ∷ []))))

  pub take_full : (n : ℕ) (ds : List X) (t : X) → (length (take n ds) < n → ⊥) → take n (insert_key eq ds t) ≡ take n ds
  take_full n ds t full =
      let long : n ≤ length ds = omega (arith, length-take n ds) in
      by (list_any (eq t) ds) refl long
    where
      by : (b : Bool) → list_any (eq t) ds ≡ b → n ≤ length ds → take n (insert_key eq ds t) ≡ take n ds
      by true e long = rw e refl
      by false e long = rw e (take-append-le n ds (t ∷ []) long)
