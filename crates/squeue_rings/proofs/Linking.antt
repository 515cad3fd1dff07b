-- Two rows of lists, one list for each of n places, where number s leads from a first place to place (c + s) mod n, in its round
-- s div n. What stands at the next number in the one row stands at the number itself in the other.
use Rattle.std.proofs.Common.{◌≡◌, ◌≢◌, ℕ, zero, suc, ◌+◌, ◌-◌, ◌*◌, ◌/◌, ◌%◌, ◌<◌, ◌≤◌, ◌⊎◌, inl, inr, Some, List, [], ◌∷◌, ◌++◌, length, slice_get, refl, ap, sym, ◌∙◌, subst, add-zero, arith}
use Rattle.std.proofs.lemmas.Bool.{cases_eq, cases_lt}
use Rattle.std.proofs.lemmas.Nat.{div-add-mod', div-mul-add, mod-mul-add}
use Rattle.std.proofs.Math.Nat.{mod-lt, add-div_right, add-mod_right, div-eq_of_lt, mul-add-mod_self_right, zero-div}
use Rattle.histories.proofs.ListPlaces.{some_at, get_front}
use Rattle.squeue_rings.proofs.Slots.{within}
use Rattle.placed_parts.proofs.PlaceSteps.{get_seam}

-- a number is known by its place and its round
too_far : (n x d p c a b m u v : ℕ) → x * n + p ≡ c + a → (x + 1 + d) * n + p ≡ c + b → m + u ≡ a → m + v ≡ b → v < n → ⊥
too_far n x d p c a b m u v at bt au bv small = omega (arith, at, bt, au, bv, small)

pub as_far : (n x y p c a b m u v : ℕ) → x * n + p ≡ c + a → y * n + p ≡ c + b → m + u ≡ a → m + v ≡ b → u < n → v < n → a ≡ b
as_far n x y p c a b m u v at bt au bv su sv =
    elim (cases_lt x y) [
      | inl lt ↦
          let e : y ≡ x + 1 + (y - (x + 1)) = omega (arith, lt) in
          absurd (too_far n x (y - (x + 1)) p c a b m u v at (subst (λ (z : ℕ). z * n + p ≡ c + b) e bt) au bv sv)
      | inr le ↦ elim (cases_lt y x) [
        | inl lt ↦
            let e : x ≡ y + 1 + (x - (y + 1)) = omega (arith, lt) in
            absurd (too_far n y (x - (y + 1)) p c b a m v u bt (subst (λ (z : ℕ). z * n + p ≡ c + a) e at) bv au su)
        | inr ge ↦ let e : x ≡ y = omega (arith, le, ge) in let f : y * n + p ≡ c + a = subst (λ (z : ℕ). z * n + p ≡ c + a) e at in omega (arith, f, bt)
      ]
    ]

pub one_number : (n c a b : ℕ) → 0 < n → (c + a) % n ≡ (c + b) % n → a / n ≡ b / n → a ≡ b
one_number n c a b some place round =
    as_far n ((c + a) / n) ((c + b) / n) ((c + b) % n) c a b (b / n * n) (a % n) (b % n)
    (subst (λ (p : ℕ). (c + a) / n * n + p ≡ c + a) place (div-add-mod' (c + a) n)) (div-add-mod' (c + b) n)
    (subst (λ (k : ℕ). k * n + a % n ≡ a) round (div-add-mod' a n)) (div-add-mod' b n) (mod-lt a some) (mod-lt b some)

-- which of the first n numbers leads from c to q
record Step (n c q : ℕ) : Type 0 where
  offset : ℕ
  rounds : ℕ
  below : offset < n
  leads : c + offset ≡ rounds * n + q

step : (n c q : ℕ) → q < n → Step n c q
step n c q lt =
    elim (cases_lt q (c % n)) [
      | inl gt ↦
          let small : c % n < n = mod-lt c (omega (arith, lt)) in
          record { offset = q + n - c % n; rounds = c / n + 1; below = omega (arith, gt, small); leads = omega (arith, div-add-mod' c n, gt, small) }
      | inr le ↦ record { offset = q - c % n; rounds = c / n; below = omega (arith, lt, le); leads = omega (arith, div-add-mod' c n, le) }
    ]

-- n numbers on, the place is the same in the next round
place_up : (n c s t : ℕ) → t + 1 ≡ s + n → (c + (t + 1)) % n ≡ (c + s) % n
place_up n c s t up = let sum : c + (t + 1) ≡ c + s + n = omega (arith, up) in ap (λ (k : ℕ). k % n) sum ∙ add-mod_right (c + s) n

round_up : (n s t : ℕ) → 0 < n → t + 1 ≡ s + n → (t + 1) / n ≡ s / n + 1
round_up n s t some up = ap (λ (k : ℕ). k / n) up ∙ add-div_right s some

within_as : {A : Type 0} (N : ℕ → List A) (a b i : ℕ) (m : A) → a ≡ b → slice_get (N b) i ≡ Some m → i < length (N a)
within_as N a b i m e at = within (N a) i m (ap (λ (k : ℕ). slice_get (N k) i) e ∙ at)

-- a list with one more at the end
pub front_or_last : {A : Type 0} (xs : List A) (h : A) (i : ℕ) (m : A) → slice_get (xs ++ h ∷ []) i ≡ Some m → (slice_get xs i ≡ Some m) ⊎ ((i ≡ length xs) × (h ≡ m))
front_or_last [] h zero m at = inr (refl, cc at)
front_or_last [] h (suc i) m at = cc at
front_or_last (x ∷ xs) h zero m at = inl at
front_or_last (x ∷ xs) h (suc i) m at =
    elim (front_or_last xs h i m at) [
      | inl before ↦ inl before
      | inr last ↦ inr (ap suc last.0, last.1)
    ]

module _ {A : Type 0} (n c : ℕ) where
  abbrev pub Joins : (ℕ → List A) → (ℕ → List A) → Type 0
  Joins N D = (s : ℕ) (m : A) → slice_get (N ((c + (s + 1)) % n)) ((s + 1) / n) ≡ Some m → slice_get (D ((c + s) % n)) (s / n) ≡ Some m

  -- nothing is lost where no list changes
  pub joins_kept : (N D N' D' : ℕ → List A) → ((k : ℕ) → N' k ≡ N k) → ((k : ℕ) → D' k ≡ D k) → Joins N D → Joins N' D'
  joins_kept N D N' D' kn kd joins s m at =
      ap (λ (l : List A). slice_get l (s / n)) (kd ((c + s) % n)) ∙ joins s m (ap (λ (l : List A). slice_get l ((s + 1) / n)) (sym (kn ((c + (s + 1)) % n))) ∙ at)

  module _ (some : 0 < n) where
    -- at first there is nothing but one at the first place
    pub joins_first : (N D : ℕ → List A) → ((k i : ℕ) (m : A) → slice_get (N k) i ≡ Some m → (k ≡ c % n) × (i ≡ 0)) → Joins N D
    joins_first N D only s m at =
        let o = only ((c + (s + 1)) % n) ((s + 1) / n) m at in
        let place : (c + (s + 1)) % n ≡ (c + 0) % n = o.0 ∙ ap (λ (k : ℕ). k % n) (sym (add-zero c)) in
        let round : (s + 1) / n ≡ 0 / n = o.1 ∙ sym (zero-div n) in
        let e : s + 1 ≡ 0 = one_number n c (s + 1) 0 some place round in
        absurd (omega (arith, e))

    -- At place q the first row has one more than the other. Then the next place is where the first row may get one more
    module _ (N D : ℕ → List A) (joins : Joins N D) (fewer : (k : ℕ) → length (D k) ≤ length (N k))
        (q : ℕ) (lt : q < n) (here : length (N q) ≡ length (D q) + 1) where
      abbrev go : Step n c q
      go = step n c q lt

      abbrev t : ℕ
      t = length (D q) * n + go.offset

      at_q : (c + t) % n ≡ q
      at_q =
          let sum : c + t ≡ (go.rounds + length (D q)) * n + q = omega (arith, go.leads) in
          ap (λ (k : ℕ). k % n) sum ∙ mod-mul-add (go.rounds + length (D q)) n q lt

      round : t / n ≡ length (D q)
      round = div-mul-add (length (D q)) n go.offset go.below

      abbrev next : ℕ
      next = (c + (t + 1)) % n

      -- what is in the second row at a number is in the first one too
      also : (s : ℕ) (m : A) → slice_get (D ((c + s) % n)) (s / n) ≡ Some m → (o : A) × (slice_get (N ((c + s) % n)) (s / n) ≡ Some o)
      also s m at = let i = within (D ((c + s) % n)) (s / n) m at in some_at (N ((c + s) % n)) (s / n) (omega (arith, i, fewer ((c + s) % n)))

      before : (s d : ℕ) (m : A) → slice_get (N ((c + (s + d)) % n)) ((s + d) / n) ≡ Some m → (o : A) × (slice_get (N ((c + s) % n)) (s / n) ≡ Some o)
      before s zero m at = (m, subst (λ (k : ℕ). slice_get (N ((c + k) % n)) (k / n) ≡ Some m) (add-zero s) at)
      before s (suc d) m at =
          let e : s + suc d ≡ s + d + 1 = omega arith in
          let o = also (s + d) m (joins (s + d) m (subst (λ (k : ℕ). slice_get (N ((c + k) % n)) (k / n) ≡ Some m) e at)) in
          before s d o.0 o.1

      there : (o : A) × (slice_get (N ((c + t) % n)) (t / n) ≡ Some o)
      there =
          let o = some_at (N q) (length (D q)) (omega (arith, here)) in
          (o.0, ap (λ (k : ℕ). slice_get (N k) (t / n)) at_q ∙ (ap (slice_get (N q)) round ∙ o.1))

      not_more : length (N next) ≤ (t + 1) / n
      not_more =
          elim (cases_lt ((t + 1) / n) (length (N next))) [
            | inl more ↦
                let o = some_at (N next) ((t + 1) / n) more in
                let d = joins t o.0 o.1 in
                let i = within (D q) (t / n) o.0 (ap (λ (k : ℕ). slice_get (D k) (t / n)) (sym at_q) ∙ d) in
                absurd (omega (arith, i, round))
            | inr le ↦ le
          ]

      not_fewer : (t + 1) / n ≤ length (N next)
      not_fewer =
          elim (cases_lt (t + 1) n) [
            | inl small ↦ let z : (t + 1) / n ≡ 0 = div-eq_of_lt small in omega (arith, z)
            | inr le ↦
                let s : ℕ = t + 1 - n in
                let up : t + 1 ≡ s + n = omega (arith, le) in
                let back : t ≡ s + (n - 1) = omega (arith, le, some) in
                let o = before s (n - 1) there.0 (subst (λ (k : ℕ). slice_get (N ((c + k) % n)) (k / n) ≡ Some there.0) back there.1) in
                let place : next ≡ (c + s) % n = place_up n c s t up in
                let rounds : (t + 1) / n ≡ s / n + 1 = round_up n s t some up in
                let i = within_as N next ((c + s) % n) (s / n) o.0 place o.1 in
                omega (arith, i, rounds)
          ]

      -- One more at place q in the second row, and the same at the next place in the first one
      module _ (N' D' : ℕ → List A) (h : A) (q1 : ℕ) (is_next : q1 ≡ (q + 1) % n)
          (kept_d : (k : ℕ) → k ≢ q → D' k ≡ D k) (more_d : D' q ≡ D q ++ h ∷ [])
          (kept_n : (k : ℕ) → k ≢ q1 → N' k ≡ N k) (more_n : N' q1 ≡ N q1 ++ h ∷ []) where
        next_is : q1 ≡ next
        next_is =
            let sum : c + (t + 1) ≡ (go.rounds + length (D q)) * n + (q + 1) = omega (arith, go.leads) in
            is_next ∙ sym (ap (λ (k : ℕ). k % n) sum ∙ mul_add (go.rounds + length (D q)) (q + 1))
          where
            mul_add : (x y : ℕ) → (x * n + y) % n ≡ y % n
            mul_add x y = mul-add-mod_self_right x n y

        old : (s : ℕ) (m : A) → slice_get (N ((c + (s + 1)) % n)) ((s + 1) / n) ≡ Some m → slice_get (D' ((c + s) % n)) (s / n) ≡ Some m
        old s m at =
            let d = joins s m at in
            elim (cases_eq ((c + s) % n) q) [
              | inl e ↦
                  ap (λ (k : ℕ). slice_get (D' k) (s / n)) e ∙ (ap (λ (l : List A). slice_get l (s / n)) more_d
                  ∙ get_front (D q) (h ∷ []) (s / n) m (ap (λ (k : ℕ). slice_get (D k) (s / n)) (sym e) ∙ d))
              | inr other ↦ ap (λ (l : List A). slice_get l (s / n)) (kept_d ((c + s) % n) other) ∙ d
            ]

        new : slice_get (D' ((c + t) % n)) (t / n) ≡ Some h
        new =
            ap (λ (k : ℕ). slice_get (D' k) (t / n)) at_q ∙ (ap (slice_get (D' q)) round
            ∙ (ap (λ (l : List A). slice_get l (length (D q))) more_d ∙ get_seam (D q) h))

        as_many : length (N next) ≡ (t + 1) / n
        as_many = omega (arith, not_more, not_fewer)

        there_now : (s : ℕ) (m : A) → (c + (s + 1)) % n ≡ q1 → slice_get (N' ((c + (s + 1)) % n)) ((s + 1) / n) ≡ Some m
            → slice_get (N q1 ++ h ∷ []) ((s + 1) / n) ≡ Some m
        there_now s m e at = ap (λ (l : List A). slice_get l ((s + 1) / n)) (sym more_n) ∙ (ap (λ (k : ℕ). slice_get (N' k) ((s + 1) / n)) (sym e) ∙ at)

        pub joins_more : Joins N' D'
        joins_more s m at =
            elim (cases_eq ((c + (s + 1)) % n) q1) [
              | inl e ↦ elim (front_or_last (N q1) h ((s + 1) / n) m (there_now s m e at)) [
                | inl before ↦ old s m (ap (λ (k : ℕ). slice_get (N k) ((s + 1) / n)) e ∙ before)
                | inr last ↦
                    let rounds : (s + 1) / n ≡ (t + 1) / n = last.0 ∙ (ap (λ (k : ℕ). length (N k)) next_is ∙ as_many) in
                    let one = one_number n c (s + 1) (t + 1) some (e ∙ next_is) rounds in
                    let is : t ≡ s = omega (arith, one) in
                    subst (λ (k : ℕ). slice_get (D' ((c + k) % n)) (k / n) ≡ Some m) is (new ∙ ap Some last.1)
              ]
              | inr other ↦ old s m (ap (λ (l : List A). slice_get l ((s + 1) / n)) (sym (kept_n ((c + (s + 1)) % n) other)) ∙ at)
            ]
