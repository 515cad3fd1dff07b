-- A way that goes round n places: number t leads from a first place c to place (c + t) mod n. How often it has been at a place.
use Rattle.std.proofs.Common.{◌≡◌, ℕ, zero, suc, ◌+◌, ◌*◌, ◌/◌, ◌%◌, ◌<◌, ◌==◌, inl, inr, Bool, false, if◌then◌else◌, refl, ap, sym, ◌∙◌, subst, arith}
use Rattle.std.proofs.lemmas.Bool.{cases_lt, eq-eqb, ne_eqb}
use Rattle.std.proofs.lemmas.Nat.{div-add-mod'}
use Rattle.std.proofs.Math.Nat.{add-div_right, add-mod_right, div-eq_of_lt}
use Rattle.squeue_rings.proofs.Linking.{as_far}

-- less than n numbers on, it is at another place
pub elsewhere : (n a d : ℕ) → d < n → a % n ≡ (a + d) % n → d ≡ 0
elsewhere n a d lt place =
    let was : a / n * n + (a + d) % n ≡ a + 0 = (let e = div-add-mod' a n in let f : a / n * n + (a + d) % n ≡ a = subst (λ (p : ℕ). a / n * n + p ≡ a) place e in omega (arith, f)) in
    let e : 0 ≡ d = as_far n (a / n) ((a + d) / n) ((a + d) % n) a 0 d 0 0 d was (div-add-mod' (a + d) n) refl (omega arith) (omega (arith, lt)) lt in
    sym e

module _ (n c q : ℕ) where
  -- how many of the first t numbers lead to place q
  abbrev pub visits : ℕ → ℕ
  visits zero = 0
  visits (suc t) = visits t + (if (c + t) % n == q then 1 else 0)

  -- as often as it went round, when it comes there d numbers on
  pub visits_are : (t d : ℕ) → d < n → (c + (t + d)) % n ≡ q → visits t ≡ (t + d) / n
  visits_are zero d lt at = let e : 0 + d ≡ d = omega arith in sym (ap (λ (k : ℕ). k / n) e ∙ div-eq_of_lt lt)
  visits_are (suc t) d lt at =
      elim (cases_lt (d + 1) n) [
        | inl small ↦
            let e : suc t + d ≡ t + (d + 1) = omega arith in
            let there : (c + (t + (d + 1))) % n ≡ q = ap (λ (k : ℕ). (c + k) % n) (sym e) ∙ at in
            let r = visits_are t (d + 1) small there in
            let f : c + (t + (d + 1)) ≡ c + t + (d + 1) = omega arith in
            let not_yet : ((c + t) % n == q) ≡ false =
            ne_eqb ((c + t) % n) q
            (λ here. let none = elsewhere n (c + t) (d + 1) small (here ∙ (sym there ∙ ap (λ (k : ℕ). k % n) f)) in absurd (omega (arith, none))) in
            ap (λ (b : Bool). visits t + (if b then 1 else 0)) not_yet ∙ ((let z : visits t + 0 ≡ visits t = omega arith in z) ∙ (r ∙ ap (λ (k : ℕ). k / n) (sym e)))
        | inr le ↦
            let e : suc t + d ≡ t + n = omega (arith, le, lt) in
            let f : c + (t + n) ≡ c + t + n = omega arith in
            let g : t + 0 ≡ t = omega arith in
            let here : (c + t) % n ≡ q = sym (add-mod_right (c + t) n) ∙ (ap (λ (k : ℕ). k % n) (sym f) ∙ (ap (λ (k : ℕ). (c + k) % n) (sym e) ∙ at)) in
            let r = visits_are t 0 (omega (arith, lt)) (ap (λ (k : ℕ). (c + k) % n) g ∙ here) in
            ap (λ (b : Bool). visits t + (if b then 1 else 0)) (eq-eqb ((c + t) % n) q here)
            ∙ (ap (λ (k : ℕ). k + 1) (r ∙ ap (λ (k : ℕ). k / n) g) ∙ sym (ap (λ (k : ℕ). k / n) e ∙ add-div_right t (omega (arith, lt))))
      ]
