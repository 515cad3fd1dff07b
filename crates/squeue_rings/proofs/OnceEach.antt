-- Calls counted over all squeues, and those that a list asks for.
use Rattle.std.proofs.Common.{◌≡◌, ℕ, zero, suc, ◌+◌, ◌==◌, ◌&&◌, Bool, true, false, if◌then◌else◌, Option, Some, List, [], ◌∷◌, ◌++◌, length, slice_get, slice_set, take, refl, ap, sym, ◌∙◌, arith}
use Rattle.std.proofs.lemmas.Bool.{eqb-true, eqb-false, eq-eqb, ne_eqb}
use Rattle.turn_gate.specs.Passes.{seen}
use Rattle.turn_gate.specs.declared.pass.Pass.{Pass}
use Rattle.perimeter_core.specs.History.{Element}
use Rattle.squeue_rings.specs.Seen.{seen_in}
use Rattle.squeue_rings.specs.Made.{made_in, once_on, times_made}

-- the pass in one place has seen more
pub one_changed : (c j k : ℕ) (places : List (Option (Pass Element))) (q : ℕ) (x y : Pass Element) → slice_get places q ≡ Some (Some x)
    → made_in c j k (slice_set places q (Some y)) + times_made c j k (seen x) ≡ made_in c j k places + times_made c j k (seen y)
one_changed c j k [] q x y is = cc is
one_changed c j k (o ∷ os) zero x y is =
    let e : o ≡ Some x = cc is in
    let t : times_made c j k (seen_in o) ≡ times_made c j k (seen x) = ap (λ (o : Option (Pass Element)). times_made c j k (seen_in o)) e in
    omega (arith, t)
one_changed c j k (o ∷ os) (suc q) x y is = let r = one_changed c j k os q x y is in omega (arith, r)

next_same : (a m : ℕ) → (suc a == suc m) ≡ (a == m)
next_same a m = by (a == m) refl
  where
    by : (b : Bool) → (a == m) ≡ b → (suc a == suc m) ≡ b
    by true e = eq-eqb (suc a) (suc m) (ap suc (eqb-true a m e))
    by false e = ne_eqb (suc a) (suc m) (λ s. eqb-false a m e (cc s))

apart : (n : ℕ) (b t : Bool) → t ≡ false → n ≡ n + (if b && t then 1 else 0)
apart n true false e = omega arith
apart n false false e = omega arith
apart n b true e = cc e

-- one call more
pub once_more : (cs : List ℕ) (c d m : ℕ) → once_on (cs ++ c ∷ []) d m ≡ once_on cs d m + (if (c == d) && (length cs == m) then 1 else 0)
once_more [] c d zero = at (c == d) (0 == 0) (eq-eqb 0 0 refl)
  where
    at : (b t : Bool) → t ≡ true → (if b then 1 else 0) ≡ 0 + (if b && t then 1 else 0)
    at true true e = refl
    at false true e = refl
    at b false e = cc e
once_more [] c d (suc m) = apart 0 (c == d) (0 == suc m) (ne_eqb 0 (suc m) (λ e. cc e))
once_more (x ∷ cs) c d zero = apart (if x == d then 1 else 0) (c == d) (suc (length cs) == 0) (ne_eqb (suc (length cs)) 0 (λ e. cc e))
once_more (x ∷ cs) c d (suc m) = once_more cs c d m ∙ ap (λ (t : Bool). once_on cs d m + (if (c == d) && t then 1 else 0)) (sym (next_same (length cs) m))

-- so many of a list that has more
pub take_length : {A : Type 0} (xs : List A) (k : ℕ) (x : A) → slice_get xs k ≡ Some x → length (take k xs) ≡ k
take_length [] k x is = cc is
take_length (y ∷ xs) zero x is = refl
take_length (y ∷ xs) (suc k) x is = ap suc (take_length xs k x is)
