-- What stands at the places of a list, when one place is written, or one more comes at its end.
use Rattle.std.proofs.Common.{◌≡◌, ◌≢◌, ℕ, ◌+◌, ◌<◌, ◌≤◌, List, [], ◌∷◌, ◌++◌, length, get_or, set, sym, subst, arith, ◌∙◌, refl, length-append, length-set, get_or-set_other, get_or-set_same, below_more}
use Rattle.std.proofs.lemmas.List.{get_or_default, get_or_append_left, get_or_push}
use mathlib.Core.Logic.{dite}
use native.Mathlib.Decide.{ℕ_discrete}
use Rattle.squeue_state.specs.Naming.{Named}
use Rattle.squeue_bench.specs.Places.{AtEach}

-- Q holds at the places before i, and P from there on
pub record Halfway {A : Type 0} (P Q : ℕ → A → Type 0) (i : ℕ) (xs : List A) : Type 0 where
  pub before : (k : ℕ) (x : A) → k < i → Q k (get_or xs k x)
  pub behind : (k : ℕ) (x : A) → i ≤ k → k < length xs → P k (get_or xs k x)

module _ {A : Type 0} (P Q : ℕ → A → Type 0) where
  pub begun : (xs : List A) → ((k : ℕ) (x : A) → k < length xs → P k (get_or xs k x)) → Halfway P Q 0 xs
  begun xs all = record { before = λ k x l. absurd (omega arith); behind = λ k x m l. all k x l }

  pub done : (xs : List A) (i : ℕ) → Halfway P Q i xs → length xs ≤ i → (k : ℕ) (x : A) → k < length xs → Q k (get_or xs k x)
  done xs i h all k x l = h.before k x (omega arith)

  same_elsewhere : (R : A → Type 0) (xs : List A) (i k : ℕ) (y x : A) → k ≢ i → R (get_or xs k x) → R (get_or (set xs i y) k x)
  same_elsewhere R xs i k y x ne r = subst R (sym (get_or-set_other xs i k y x ne)) r

  written : (R : A → Type 0) (xs : List A) (i : ℕ) (y x : A) → i < length xs → R y → R (get_or (set xs i y) i x)
  written R xs i y x l r = subst R (sym (get_or-set_same xs i y x l)) r

  -- the place i is written
  pub next : (xs : List A) (i : ℕ) (y : A) → Halfway P Q i xs → i < length xs → Q i y → Halfway P Q (i + 1) (set xs i y)
  next xs i y h l q =
      let long : length (set xs i y) ≡ length xs = length-set xs i y in
      record {
        before = λ k x b. below_more (λ (j : ℕ). Q j (get_or (set xs i y) j x)) i (λ j m. let ne : j ≢ i = omega arith in same_elsewhere (Q j) xs i j y x ne (h.before j x m)) (written (Q i) xs i y x l q) k b;
        behind = λ k x m b. let ne : k ≢ i = omega arith in same_elsewhere (P k) xs i k y x ne (h.behind k x (omega arith) (omega (arith, b, long)));
      }

  -- the place i is written, from the end on
  pub back : (xs : List A) (i : ℕ) (y : A) → Halfway P Q (i + 1) xs → i < length xs → P i y → Halfway P Q i (set xs i y)
  back xs i y h l p =
      let long : length (set xs i y) ≡ length xs = length-set xs i y in
      record {
        before = λ k x b. let ne : k ≢ i = omega arith in same_elsewhere (Q k) xs i k y x ne (h.before k x (omega arith));
        behind = λ k x m b. dite (ℕ_discrete k i)
            (λ is. subst (λ (j : ℕ). P j (get_or (set xs i y) j x)) (sym is) (written (P i) xs i y x l p))
            (λ ne. same_elsewhere (P k) xs i k y x ne (h.behind k x (omega arith) (omega (arith, b, long))));
      }

module _ {R A : Type 0} (P : Named R → A → Type 0) where
  -- what was read at a place stands there, whatever the default is
  pub read : (squeues : List (Named R)) (i : ℕ) (s : Named R) (y : A) → i < length squeues → s ≡ get_or squeues i s → P s y → (t : Named R) → P (get_or squeues i t) y
  read squeues i s y l is h t = subst (λ (z : Named R). P z y) (is ∙ get_or_default squeues i s t l) h

  both : (a s : Named R) (b x : A) → a ≡ s → b ≡ x → P s x → P a b
  both a s b x e f h = subst (λ (z : Named R). P z b) (sym e) (subst (P s) (sym f) h)

  -- one squeue more
  pub at_more : (squeues : List (Named R)) (s : Named R) (xs : List A) (x : A) → AtEach P squeues xs → P s x → AtEach P (squeues ++ s ∷ []) (xs ++ x ∷ [])
  at_more squeues s xs x e h =
      let long : length (squeues ++ s ∷ []) ≡ length squeues + 1 = length-append squeues (s ∷ []) in
      let as_many : length (xs ++ x ∷ []) ≡ length squeues + 1 = omega (arith, length-append xs (x ∷ []), e.as_many) in
      record {
        as_many = as_many ∙ sym long;
        each = λ q t y l.
            below_more (λ (j : ℕ). P (get_or (squeues ++ s ∷ []) j t) (get_or (xs ++ x ∷ []) j y)) (length squeues)
            (λ j m. both _ _ _ _ (get_or_append_left squeues (s ∷ []) t j m) (get_or_append_left xs (x ∷ []) y j (omega (arith, m, e.as_many))) (e.each j t y m))
            (both _ s _ x (get_or_push squeues s t (length squeues) refl) (get_or_push xs x y (length squeues) e.as_many) h)
            q (omega (arith, l, long));
      }

  -- the last squeue, and those before it
  at_last : (squeues : List (Named R)) (s : Named R) (xs : List A) (x : A) → AtEach P (squeues ++ s ∷ []) (xs ++ x ∷ []) → AtEach P squeues xs × P s x
  at_last squeues s xs x e =
      let long : length (squeues ++ s ∷ []) ≡ length squeues + 1 = length-append squeues (s ∷ []) in
      let as_many : length xs ≡ length squeues = omega (arith, length-append xs (x ∷ []), e.as_many, long) in (
        record {
          as_many = as_many;
          each = λ q t y l. both _ _ _ _ (sym (get_or_append_left squeues (s ∷ []) t q l)) (sym (get_or_append_left xs (x ∷ []) y q (omega (arith, l, as_many)))) (e.each q t y (omega (arith, l, long)));
        },
        both _ _ _ _ (sym (get_or_push squeues s s (length squeues) refl)) (sym (get_or_push xs x x (length squeues) as_many)) (e.each (length squeues) s x (omega (arith, long))),
      )

  pub at_split : (squeues left : List (Named R)) (s : Named R) (xs ys : List A) (x : A) → squeues ≡ left ++ s ∷ [] → xs ≡ ys ++ x ∷ [] → AtEach P squeues xs → AtEach P left ys × P s x
  at_split squeues left s xs ys x e f h = at_last left s ys x (subst (AtEach P (left ++ s ∷ [])) f (subst (λ (zs : List (Named R)). AtEach P zs xs) e h))

  -- all places are written
  pub at_all : (B : ℕ → A → Type 0) (squeues : List (Named R)) (i : ℕ) (xs : List A) → Halfway B (λ q x. (s : Named R) → P (get_or squeues q s) x) i xs → length xs ≡ length squeues → length squeues ≤ i → AtEach P squeues xs
  at_all B squeues i xs h as_many l = record { as_many = as_many; each = λ q s x b. done B (λ j y. (t : Named R) → P (get_or squeues j t) y) xs i h (omega (arith, as_many, l)) q x (omega (arith, as_many, b)) s }
