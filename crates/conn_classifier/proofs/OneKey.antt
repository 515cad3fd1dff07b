-- A list for each key, one element further: it goes to the one key that passes.
use Rattle.std.proofs.Common.{◌≡◌, ℕ, ◌+◌, ◌-◌, ◌<◌, ◌≤◌, Bool, true, false, List, [], ◌∷◌, ◌++◌, suc, length, map, set, get_or, Some, None, refl, sym, ap, ◌∙◌, arith, if◌then◌else◌, append-nil}
use Rattle.std.specs.List.{list_any, position_from, IsDistinct, AllByRecursion}

module _ {K X : Type 0} (p : K → Bool) (f : K → List X) (a : X) where
  abbrev pub grown : K → List X
  grown t = f t ++ (if p t then a ∷ [] else [])

  off : (t : K) → p t ≡ false → grown t ≡ f t
  off t e = rw e (append-nil (f t))

  on : (t : K) → p t ≡ true → grown t ≡ f t ++ a ∷ []
  on t e = rw e refl

  pub all_off : (ts : List K) → AllByRecursion (λ t. p t ≡ false) ts → map grown ts ≡ map f ts
  all_off [] h = refl
  all_off (t ∷ ts) h = (λ k. off t h.0 k ∷ all_off ts h.1 k)

  none_from : (i : ℕ) (ts : List K) → position_from p i ts ≡ None → AllByRecursion (λ t. p t ≡ false) ts
  none_from i [] e = tt
  none_from i (t ∷ ts) e = by (p t) refl e (none_from (i + 1) ts)
    where
      by : (b : Bool) → p t ≡ b → position_from p i (t ∷ ts) ≡ None → (position_from p (i + 1) ts ≡ None → AllByRecursion (λ t. p t ≡ false) ts)
          → (p t ≡ false) × AllByRecursion (λ t. p t ≡ false) ts
      by true q h rest = let bad : Some i ≡ None = rw q at h in absurd (let no : ⊥ = cc in no)
      by false q h rest = (q, rest (rw q at h))

  pub grown_none : (ts : List K) → position_from p 0 ts ≡ None → map grown ts ≡ map f ts
  grown_none ts e = all_off ts (none_from 0 ts e)

  pub none_any : (i : ℕ) (ts : List K) → position_from p i ts ≡ None → list_any p ts ≡ false
  none_any i [] e = refl
  none_any i (t ∷ ts) e = by (p t) refl e (none_any (i + 1) ts)
    where
      by : (b : Bool) → p t ≡ b → position_from p i (t ∷ ts) ≡ None → (position_from p (i + 1) ts ≡ None → list_any p ts ≡ false) → list_any p (t ∷ ts) ≡ false
      by true q h rest = let bad : Some i ≡ None = rw q at h in absurd (let no : ⊥ = cc in no)
      by false q h rest = rw q (rest (rw q at h))

  pub some_any : (i j : ℕ) (ts : List K) → position_from p i ts ≡ Some j → list_any p ts ≡ true
  some_any i j [] e = absurd (let no : ⊥ = cc in no)
  some_any i j (t ∷ ts) e = by (p t) refl e (some_any (i + 1) j ts)
    where
      by : (b : Bool) → p t ≡ b → position_from p i (t ∷ ts) ≡ Some j → (position_from p (i + 1) ts ≡ Some j → list_any p ts ≡ true) → list_any p (t ∷ ts) ≡ true
      by true q h rest = rw q refl
      by false q h rest = rw q (rest (rw q at h))

  pub record Grows (i j : ℕ) (ts : List K) : Type 0 where
    pub after : i ≤ j
    pub within : j < i + length ts
    pub one : map grown ts ≡ set (map f ts) (j - i) (get_or (map f ts) (j - i) [] ++ a ∷ [])

  module _ (eq : K → K → Bool) (apart : (t u : K) → p t ≡ true → eq t u ≡ false → p u ≡ false) where
    apart_all : (t : K) → p t ≡ true → (ts : List K) → AllByRecursion (λ u. eq t u ≡ false) ts → AllByRecursion (λ u. p u ≡ false) ts
    apart_all t e [] h = tt
    apart_all t e (u ∷ ts) h = (apart t u e h.0, apart_all t e ts h.1)

    pub grown_from : (i j : ℕ) (ts : List K) → IsDistinct eq ts → position_from p i ts ≡ Some j → Grows i j ts
    unfolding IsDistinct
    grown_from i j [] d e = absurd (let no : ⊥ = cc in no)
    grown_from i j (t ∷ ts) d e = by (p t) refl e (grown_from (i + 1) j ts d.1)
      where
        by : (b : Bool) → p t ≡ b → position_from p i (t ∷ ts) ≡ Some j → (position_from p (i + 1) ts ≡ Some j → Grows (i + 1) j ts) → Grows i j (t ∷ ts)
        by true q h rest =
            let here : Some i ≡ Some j = rw q at h in
            let same : i ≡ j = cc in
            let zero : j - i ≡ 0 = omega (arith, same) in
            record {
              after = omega (arith, same);
              within = omega (arith, same);
              one = (λ k. on t q k ∷ all_off ts (apart_all t q ts d.0) k) ∙ ap (λ n. set (map f (t ∷ ts)) n (get_or (map f (t ∷ ts)) n [] ++ a ∷ [])) (sym zero);
            }
        by false q h rest =
            let g = rest (rw q at h) in
            let next : j - i ≡ suc (j - (i + 1)) = omega (arith, g.after) in
            record {
              after = omega (arith, g.after);
              within = omega (arith, g.within);
              one = (λ k. off t q k ∷ g.one k) ∙ ap (λ n. set (map f (t ∷ ts)) n (get_or (map f (t ∷ ts)) n [] ++ a ∷ [])) (sym next);
            }

    pub grown_some : (j : ℕ) (ts : List K) → IsDistinct eq ts → position_from p 0 ts ≡ Some j → Grows 0 j ts
    grown_some j ts d e = grown_from 0 j ts d e
